-- BIT 31 of an instruction word, the opcode's top bit (p. 75), is ignored: a step on a word is the step on the word with bit 31
-- changed. The word is taken as an instruction here; a program that loads it as data sees the bit.
use Prim.Native.Nat.{ℕ, ◌/◌, ◌%◌, ◌^◌}
use mathlib.Core.Path.{◌≡◌, refl, ap, ◌∙◌}
use mathlib.Core.Bool.{Bool, cond, ◌&&◌}
use mathlib.Core.List.{List}
use lib.Bits.{bit_xor, xor_shr, xor_mod, xor_zero_r}
use Rattle.words.specs.Words.{field}
use Rattle.words.specs.Fields.{opcode, dest, srca, srcb, imm}
use Rattle.macro_meaning.specs.Machine.{MacroMachine}
use Rattle.macro_meaning.specs.declared.Operands.{Operands}
use Rattle.macro_meaning.specs.Instructions.{eint_key}
use Rattle.macro_meaning.specs.Step.{operands, selected, step_by, step_on}

-- the word with bit 31 changed
abbrev pub turned_over : ℕ → ℕ
turned_over w = bit_xor w (2 ^ 31)

-- a field that does not reach bit 31 is the same
unseen : (w low size : ℕ) → 2 ^ 31 / 2 ^ low % 2 ^ size ≡ 0 → field (turned_over w) low size ≡ field w low size
unfolding field
unseen w low size e = rw (xor_shr w (2 ^ 31) low, xor_mod (w / 2 ^ low) (2 ^ 31 / 2 ^ low) size, e, xor_zero_r)

-- so what the instruction reads is the same
same_operands : (w : ℕ) (m : MacroMachine) → operands (turned_over w) m ≡ operands w m
unfolding dest srca srcb imm
same_operands w m = rw (unseen w 21 5 refl, unseen w 16 5 refl, unseen w 11 5 refl, unseen w 0 16 refl)

pub top_bit_ignored : (w : ℕ) (mem : List ℕ) (m : MacroMachine) (request : Bool)
    → step_on (turned_over w) mem m request ≡ step_on w mem m request
unfolding selected opcode
top_bit_ignored w mem m request =
    ap (λ (key : ℕ). step_by (cond (request && m.psw.ie) eint_key key) (operands (turned_over w) m) mem m) (unseen w 26 5 refl)
    ∙ ap (λ (o : Operands). step_by (selected request m.psw w) o mem m) (same_operands w m)
