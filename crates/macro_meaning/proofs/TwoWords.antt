-- NUMBERS OF TWO WORDS, the low word first, each operand as its instruction finds it: a high word should not stand in the low
-- destination. ADD or ADDI of the low words, and ADDC or ADDCI behind it of the high words, add two numbers of 64 bits. SUB and SUBC do
-- not subtract them: SUB leaves c set where nothing was borrowed, and SUBC takes c itself off. SUB, and ADDC behind it with the
-- complement of the high word, do.
use Prim.Native.Nat.{ℕ, ◌+◌, ◌-◌, ◌*◌, ◌%◌, ◌^◌, ◌<◌}
use native.Mathlib.Omega.{arith}
use mathlib.Core.Path.{◌≡◌, refl, ap, ap₂, ◌∙◌}
use mathlib.Core.Bool.{Bool, true, false}
use mathlib.Core.List.{List}
use lib.Seq.{get_or-set_other}
use Rattle.words.specs.Words.{wordn, field, bnot}
use Rattle.words.specs.Fields.{opcode, dest, srca, srcb}
use Rattle.words.specs.Registers.{register, is_sup_reg, update_reg}
use Rattle.alu.specs.declared.AluOutput.{AluOutput}
use Rattle.alu.specs.Alu.{sum, sum_carry, difference, difference_carry, added, subtracted, add_without_carry, sub_without_carry}
use Rattle.alu.proofs.TrueResults.{sum_without_carry, sum_with_carry, difference_without_borrow, difference_with_borrow}
use Rattle.blocks.specs.Memory.{fetch}
use Rattle.macro_meaning.specs.Instructions.{arithmetic, computation, effect}
use Rattle.macro_meaning.specs.Step.{Macro, selected, step}
use Rattle.macro_meaning.specs.Programs.{next, instruction, holds, Legal, Does, Operates, on_registers, writable}
use Rattle.macro_meaning.proofs.StepsTaken.{written, holds_it, operand_words}
use Rattle.macro_meaning.proofs.SumSteps.{put_out, add_puts, addc_puts, sub_puts}
use Rattle.macro_meaning.proofs.LegalStates.{legal_kept}
use Rattle.macro_meaning.proofs.ExampleStates.{example, legal_example}

-- a number of two words
abbrev pub two : ℕ → ℕ → ℕ
two low high = low + high * 2 ^ 32

-- two instructions have two destinations, both writable
pub record Halves (s : Macro) (request : Bool) : Type 0 where
  pub low_free : writable s (dest (instruction s)) ≡ true
  pub high_free : writable s (dest (instruction (next s request))) ≡ true
  pub differ : dest (instruction s) ≡ dest (instruction (next s request)) → ⊥

-- what the two destinations hold after both
abbrev pub result : Macro → Bool → Bool → ℕ
result s request later =
    let after = next (next s request) later in
    two (holds after (dest (instruction s))) (holds after (dest (instruction (next s request))))

-- ---- of words: the carry of the low words is what the high words want

long_sum : (a b c d : ℕ) → a < 2 ^ 32 → b < 2 ^ 32 → c < 2 ^ 32 → d < 2 ^ 32
    → two (sum a b false) (sum c d (sum_carry a b false)) ≡ (two a c + two b d) % 2 ^ 64
unfolding sum wordn
long_sum a b c d ha hb hc hd = by_carry (sum_carry a b false) refl
  where
    by_carry : (t : Bool) → sum_carry a b false ≡ t → two (sum a b false) (sum c d t) ≡ (two a c + two b d) % 2 ^ 64
    by_carry true e = omega (arith, sum_with_carry a b false ha hb e)
    by_carry false e = omega (arith, sum_without_carry a b false e)

long_difference : (a b c d : ℕ) → a < 2 ^ 32 → b < 2 ^ 32 → c < 2 ^ 32 → d < 2 ^ 32
    → (two (difference a b false) (sum c (bnot d) (difference_carry a b false)) + two b d) % 2 ^ 64 ≡ two a c
unfolding sum wordn bnot
long_difference a b c d ha hb hc hd = by_carry (difference_carry a b false) refl
  where
    by_carry : (t : Bool) → difference_carry a b false ≡ t → (two (difference a b false) (sum c (bnot d) t) + two b d) % 2 ^ 64 ≡ two a c
    by_carry true e = omega (arith, difference_without_borrow a b false ha hb e)
    by_carry false e = omega (arith, difference_with_borrow a b ha hb e)

-- ---- an output of the ALU in the low destination, and ADDC or ADDCI behind it

-- a write leaves every register but its own
untouched : (s : Macro) (to value n : ℕ) → writable s to ≡ true → (n ≡ to → ⊥)
    → register (update_reg s.machine.psw.sm to s.machine.registers value) n ≡ holds s n
untouched s to value n free other =
    ap (λ (l : List ℕ). register l n) (written s to value free) ∙ get_or-set_other s.machine.registers to n value 0 other

module _ (s : Macro) (request later : Bool) (legal : Legal s) (halves : Halves s request) (out : AluOutput) (low : next s request ≡ put_out s out)
    {c d : ℕ} (high : Operates 17 25 (next s request) later c d) where
  abbrev low_word : ℕ
  low_word = instruction s

  abbrev high_word : ℕ
  high_word = instruction (next s request)

  low_value : holds (next s request) (dest low_word) ≡ out.value
  low_value = ap (λ (t : Macro). holds t (dest low_word)) low ∙ holds_it s legal low_word out.value halves.low_free

  still_free : writable (next s request) (dest high_word) ≡ true
  still_free = ap (λ (t : Macro). writable t (dest high_word)) low ∙ halves.high_free

  low_stays : holds (next (next s request) later) (dest low_word) ≡ holds (next s request) (dest low_word)
  low_stays =
      ap (λ (t : Macro). holds t (dest low_word)) (addc_puts (next s request) later high)
      ∙ untouched (next s request) (dest high_word) _ (dest low_word) still_free halves.differ

  high_value : holds (next (next s request) later) (dest high_word) ≡ sum c d out.flags.c
  unfolding added
  high_value =
      ap (λ (t : Macro). holds t (dest high_word)) (addc_puts (next s request) later high)
      ∙ holds_it (next s request) (legal_kept s legal request) high_word (sum c d (next s request).machine.psw.c) still_free
      ∙ ap (λ (t : Macro). sum c d t.machine.psw.c) low

  both_values : result s request later ≡ two out.value (sum c d out.flags.c)
  both_values = ap₂ two (low_stays ∙ low_value) high_value

-- ---- the laws

module _ (s : Macro) (request later : Bool) (legal : Legal s) (halves : Halves s request) {a b c d : ℕ} where
  -- ADD or ADDI of a and b, and ADDC or ADDCI behind it of c and d: the sum of the two numbers, modulo 2 ^ 64
  pub long_addition : Operates 16 24 s request a b → Operates 17 25 (next s request) later c d
      → result s request later ≡ (two a c + two b d) % 2 ^ 64
  unfolding added
  long_addition low high =
      let lows = operand_words s request legal low in
      let highs = operand_words (next s request) later (legal_kept s legal request) high in
      both_values s request later legal halves (add_without_carry a b) (add_puts s request low) high
      ∙ long_sum a b c d lows.0 lows.1 highs.0 highs.1

  -- SUB or SUBI of a and b, and ADDC behind it of c and the complement of d, that is BNOT's: the difference of the two numbers, modulo 2
  -- ^ 64
  pub long_subtraction : d < 2 ^ 32 → Operates 18 26 s request a b → Operates 17 25 (next s request) later c (bnot d)
      → (result s request later + two b d) % 2 ^ 64 ≡ two a c
  unfolding subtracted
  long_subtraction word low high =
      let lows = operand_words s request legal low in
      let highs = operand_words (next s request) later (legal_kept s legal request) high in
      ap (λ (n : ℕ). (n + two b d) % 2 ^ 64) (both_values s request later legal halves (sub_without_carry a b) (sub_puts s request low) high)
      ∙ long_difference a b c d lows.0 lows.1 highs.0 word

-- SUB, and SUBC behind it, would give the difference if this held. It fails already for 0 - 0: SUB R12 R8 R9 borrows nothing and sets c,
-- and SUBC R13 R10 R11 takes it off.
abbrev pub SubtractsLong : Type 0
SubtractsLong = (s : Macro) (request later : Bool) → Legal s → Halves s request → (a b c d : ℕ) → Operates 18 26 s request a b
    → Operates 19 27 (next s request) later c d → (result s request later + two b d) % 2 ^ 64 ≡ two a c

abbrev pub sub_12_8_9 : ℕ
sub_12_8_9 = 18 * 2 ^ 26 + 12 * 2 ^ 21 + 8 * 2 ^ 16 + 9 * 2 ^ 11

abbrev pub subc_13_10_11 : ℕ
subc_13_10_11 = 19 * 2 ^ 26 + 13 * 2 ^ 21 + 10 * 2 ^ 16 + 11 * 2 ^ 11

abbrev zeros_taken_off : Macro
zeros_taken_off = example sub_12_8_9 subc_13_10_11 0

pub sub_then_subc_fails : SubtractsLong → ⊥
unfolding step selected effect computation arithmetic subtracted difference difference_carry sum sum_carry update_reg is_sup_reg fetch opcode dest srca srcb field wordn bnot
sub_then_subc_fails claim =
    let legal = legal_example sub_12_8_9 subc_13_10_11 0 (omega arith) (omega arith) (omega arith) in
    let low : Does 18 zeros_taken_off false = record { undisturbed = refl; chosen = refl } in
    let high : Does 19 (next zeros_taken_off false) false = record { undisturbed = refl; chosen = refl } in
    let halves : Halves zeros_taken_off false = record { low_free = refl; high_free = refl; differ = λ e. omega arith } in
    let e : 2 ^ 64 - 2 ^ 32 ≡ 0 = claim zeros_taken_off false false legal halves 0 0 0 0 (on_registers low) (on_registers high) in
    omega arith
