-- What a step is where its instruction is known: the laws about programs start from here.
use Prim.Native.Nat.{ℕ, ◌^◌, ◌<◌}
use native.Mathlib.Nat.{lt_of_lt_of_le}
use native.Mathlib.Omega.{arith}
use mathlib.Core.Path.{◌≡◌, refl, ap, ◌∙◌}
use mathlib.Core.Bool.{Bool, true, not, cond, ◌&&◌}
use mathlib.Core.List.{List}
use lib.Dec.{eqb, leb}
use lib.Count.{ones}
use lib.ListN.{length, set}
use lib.Seq.{get_or-set_same}
use borrow.Author.Tests.{ne_eqb, eqb-false, leb-true}
use Rattle.words.specs.Fields.{opcode, dest, srca, srcb, imm}
use Rattle.words.specs.Lengths.{legal_length, fewest_words, most_words}
use Rattle.words.specs.Registers.{register, is_sup_reg, update_reg}
use Rattle.words.proofs.Cases.{turned, and_right, both_of}
use Rattle.words.proofs.FieldBounds.{field_lt, dest_lt}
use Rattle.words.proofs.RegisterRule.{stored}
use Rattle.macro_meaning.specs.declared.Operands.{Operands}
use Rattle.macro_meaning.specs.declared.Effect.{Effect}
use Rattle.macro_meaning.specs.Instructions.{effect, eint_key}
use Rattle.macro_meaning.specs.Step.{Macro, operands, selected, step_by, step}
use Rattle.macro_meaning.specs.Programs.{next, instruction, entry, Legal, Does, Operates, on_registers, with_immediate, writable}

-- what the instruction at PC reads
abbrev pub reads : Macro → Operands
reads s = operands (instruction s) s.machine

-- what a step does
abbrev pub what_it_does : Macro → Bool → Effect
what_it_does s request = effect (entry s request) s.memory (reads s)

-- the step of a state by an entry of the list
abbrev pub by_entry : ℕ → Macro → Macro
by_entry key s = step_by key (reads s) s.memory s.machine

pub by_its_entry : (s : Macro) (request : Bool) → next s request ≡ by_entry (entry s request) s
unfolding step
by_its_entry s request = refl

-- the entry that a step takes: its opcode, or the interrupt step's where the request is up and ie is set
takes : {key : ℕ} (s : Macro) (request : Bool) → Does key s request → entry s request ≡ key
unfolding selected
takes {key} s request d = ap (λ (t : Bool). cond t eint_key (opcode (instruction s))) d.undisturbed ∙ d.chosen

takes_the_interrupt : (s : Macro) → s.machine.psw.ie ≡ true → entry s true ≡ eint_key
unfolding selected
takes_the_interrupt s on = ap (λ (t : Bool). cond t eint_key (opcode (instruction s))) on

pub does : {key : ℕ} (s : Macro) (request : Bool) → Does key s request → next s request ≡ by_entry key s
does s request d = by_its_entry s request ∙ ap (λ (k : ℕ). by_entry k s) (takes s request d)

pub interrupts : (s : Macro) → s.machine.psw.ie ≡ true → next s true ≡ by_entry eint_key s
interrupts s on = by_its_entry s true ∙ ap (λ (k : ℕ). by_entry k s) (takes_the_interrupt s on)

-- a writable register gets the value
pub written : (s : Macro) (n value : ℕ) → writable s n ≡ true
    → update_reg s.machine.psw.sm n s.machine.registers value ≡ set s.machine.registers n value
written s n value w =
    let parts = both_of (not (eqb n 0)) (not (is_sup_reg n && not s.machine.psw.sm)) w in
    stored s.machine.psw.sm n s.machine.registers value (eqb-false n 0 (turned (eqb n 0) parts.0)) (turned _ parts.1)

-- .. and holds it then, if it is the destination of an instruction word
pub holds_it : (s : Macro) → Legal s → (w value : ℕ) → writable s (dest w) ≡ true
    → register (update_reg s.machine.psw.sm (dest w) s.machine.registers value) (dest w) ≡ value
holds_it s legal w value free =
    ap (λ (l : List ℕ). register l (dest w)) (written s (dest w) value free)
    ∙ get_or-set_same s.machine.registers (dest w) value 0 (rw legal.registers (dest_lt w))

-- in supervisor mode every register but 0 is writable
pub supervisor_writes : (s : Macro) (n : ℕ) → s.machine.psw.sm ≡ true → (n ≡ 0 → ⊥) → writable s n ≡ true
supervisor_writes s n supervisor h = rw (ne_eqb n 0 h, supervisor, and_right (is_sup_reg n))

-- operands are words
pub operand_words : {plain immediate a b : ℕ} (s : Macro) (request : Bool) → Legal s → Operates plain immediate s request a b
    → (a < 2 ^ 32) × (b < 2 ^ 32)
unfolding imm
operand_words s request legal (on_registers d) = (legal.words (srca (instruction s)), legal.words (srcb (instruction s)))
operand_words s request legal (with_immediate d) =
    (legal.words (srca (instruction s)), lt_of_lt_of_le (field_lt (instruction s) 0 16) (omega arith))

-- a legal memory has words
pub has_words : (s : Macro) → Legal s → 0 < length s.memory
unfolding legal_length
has_words s legal =
    let m = length s.memory in
    let ends = (both_of (eqb (ones m) 1) (leb fewest_words m && leb m most_words) legal.size).1 in
    let least = leb-true fewest_words m (both_of (leb fewest_words m) (leb m most_words) ends).0 in
    omega arith
