-- SYNTHESIZED INSTRUCTIONS (table 5.6, p. 75) that do not do what the table says: set bit and clear bit as printed, each with a state
-- where it goes wrong; and what to write instead. Bits are counted from 0.
use Prim.Native.Nat.{ℕ, ◌+◌, ◌-◌, ◌*◌, ◌^◌}
use native.Mathlib.Omega.{arith}
use mathlib.Core.Path.{◌≡◌, refl, sym, ap, subst, ◌∙◌}
use mathlib.Core.Bool.{Bool, true, false, false≢true, not, xor, ◌&&◌, ◌||◌}
use lib.Dec.{eqb}
use Rattle.words.specs.Words.{field, bit}
use Rattle.words.specs.Fields.{opcode, dest, srca, imm}
use Rattle.words.specs.Registers.{is_sup_reg}
use Rattle.words.proofs.BitByBit.{bit_of_power}
use Rattle.blocks.specs.Memory.{fetch}
use Rattle.macro_meaning.specs.Step.{Macro}
use Rattle.macro_meaning.specs.Programs.{next, instruction, holds, Legal, Does, Operates, with_immediate, writable}
use Rattle.macro_meaning.proofs.ExampleStates.{example, legal_example}
use Rattle.macro_meaning.proofs.LegalStates.{legal_kept}
use Rattle.macro_meaning.proofs.Bitwise.{band_bit_by_bit, bor_bit_by_bit, bxor_bit_by_bit}

-- the step is the instruction with this opcode, on one writable register and this immediate
pub record OnRegister (key : ℕ) (s : Macro) (request : Bool) (register immediate : ℕ) : Type 0 where
  pub chosen : Does key s request
  pub target : dest (instruction s) ≡ register
  pub source : srca (instruction s) ≡ register
  pub second : imm (instruction s) ≡ immediate
  pub free : writable s register ≡ true

-- BORI R[s] R[s] with the immediate that is given for bit x sets bit x and keeps every other
abbrev pub SetsBit : (ℕ → ℕ) → Type 0
SetsBit immediate = (s : Macro) (request : Bool) (register x : ℕ) → Legal s → OnRegister 29 s request register (immediate x)
    → (place : ℕ) → bit (holds (next s request) register) place ≡ (bit (holds s register) place || eqb place x)

-- BANDI R[s] R[s] with the immediate that is given for bit x clears bit x and keeps every other
abbrev pub ClearsBit : (ℕ → ℕ) → Type 0
ClearsBit immediate = (s : Macro) (request : Bool) (register x : ℕ) → Legal s → OnRegister 28 s request register (immediate x)
    → (place : ℕ) → bit (holds (next s request) register) place ≡ (bit (holds s register) place && not (eqb place x))

-- ---- the register's bits after BORI, BANDI and BXORI on it

module _ (s : Macro) (request : Bool) (register immediate : ℕ) (legal : Legal s) (place : ℕ) where
  -- the operands are the register and the immediate, and the destination is the register
  abbrev On : ℕ → Type 0
  On key = OnRegister key s request register immediate

  operands_are : {plain key : ℕ} → On key → Operates plain key s request (holds s register) immediate
  operands_are {plain} {key} on =
      subst (λ (a : ℕ). Operates plain key s request a immediate) (ap (holds s) on.source)
      (subst (Operates plain key s request (holds s (srca (instruction s)))) on.second (with_immediate on.chosen))

  free_there : {key : ℕ} → On key → writable s (dest (instruction s)) ≡ true
  free_there on = ap (writable s) on.target ∙ on.free

  there : {key : ℕ} (b : Bool) → On key → bit (holds (next s request) (dest (instruction s))) place ≡ b
      → bit (holds (next s request) register) place ≡ b
  there b on = subst (λ (n : ℕ). bit (holds (next s request) n) place ≡ b) on.target

  bits_ored : On 29 → bit (holds (next s request) register) place ≡ (bit (holds s register) place || bit immediate place)
  bits_ored on = there _ on (bor_bit_by_bit s request legal (free_there on) (operands_are on) place)

  bits_anded : On 28 → bit (holds (next s request) register) place ≡ (bit (holds s register) place && bit immediate place)
  bits_anded on = there _ on (band_bit_by_bit s request legal (free_there on) (operands_are on) place)

  bits_turned : On 30 → bit (holds (next s request) register) place ≡ xor (bit (holds s register) place) (bit immediate place)
  bits_turned on = there _ on (bxor_bit_by_bit s request legal (free_there on) (operands_are on) place)

-- ---- as it is printed

-- set bit x in s is printed as BORI R[s] R[s] 2 ^ (x + 1): it sets the bit after x. With 0 in register 8 and x = 0 it leaves 2 there.
abbrev pub bori_8_8_2 : ℕ
bori_8_8_2 = 29 * 2 ^ 26 + 8 * 2 ^ 21 + 8 * 2 ^ 16 + 2

bori_on_8 : OnRegister 29 (example bori_8_8_2 0 0) false 8 (2 ^ (0 + 1))
unfolding fetch opcode dest srca imm field is_sup_reg
bori_on_8 = record { chosen = record { undisturbed = refl; chosen = refl }; target = refl; source = refl; second = refl; free = refl }

pub set_bit_as_printed_fails : SetsBit (λ x. 2 ^ (x + 1)) → ⊥
unfolding bit
set_bit_as_printed_fails claim =
    let legal = legal_example bori_8_8_2 0 0 (omega arith) (omega arith) (omega arith) in
    let state = example bori_8_8_2 0 0 in
    false≢true (sym (bits_ored state false 8 2 legal 0 bori_on_8) ∙ claim state false 8 0 legal bori_on_8 0)

-- clear bit x in s is printed as BANDI R[s] R[s] 2 ^ 16 - 2 ^ (x + 1): it clears bits 16 to 31 too. With all bits set in register 8 and x
-- = 0 it leaves 2 ^ 16 - 2 there.
abbrev pub bandi_8_8_65534 : ℕ
bandi_8_8_65534 = 28 * 2 ^ 26 + 8 * 2 ^ 21 + 8 * 2 ^ 16 + (2 ^ 16 - 2)

abbrev pub all_bits : ℕ
all_bits = 2 ^ 32 - 1

bandi_on_8 : OnRegister 28 (example bandi_8_8_65534 0 all_bits) false 8 (2 ^ 16 - 2 ^ (0 + 1))
unfolding fetch opcode dest srca imm field is_sup_reg
bandi_on_8 = record { chosen = record { undisturbed = refl; chosen = refl }; target = refl; source = refl; second = refl; free = refl }

pub clear_bit_as_printed_fails : ClearsBit (λ x. 2 ^ 16 - 2 ^ (x + 1)) → ⊥
unfolding bit
clear_bit_as_printed_fails claim =
    let legal = legal_example bandi_8_8_65534 0 all_bits (omega arith) (omega arith) (omega arith) in
    let state = example bandi_8_8_65534 0 all_bits in
    false≢true (sym (bits_anded state false 8 65534 legal 16 bandi_on_8) ∙ claim state false 8 0 legal bandi_on_8 16)

-- ---- what to write instead

-- set bit x in s, for x from 0 to 15: BORI R[s] R[s] 2 ^ x. A higher bit has no immediate.
pub set_bit : SetsBit (λ x. 2 ^ x)
set_bit s request register x legal on place =
    bits_ored s request register (2 ^ x) legal place on ∙ ap (λ (t : Bool). bit (holds s register) place || t) (bit_of_power x place)

-- clear bit x in s, for x from 0 to 15: BORI R[s] R[s] 2 ^ x, then BXORI R[s] R[s] 2 ^ x
pub clear_bit : (s : Macro) (request later : Bool) (register x : ℕ) → Legal s → OnRegister 29 s request register (2 ^ x)
    → OnRegister 30 (next s request) later register (2 ^ x)
    → (place : ℕ) → bit (holds (next (next s request) later) register) place ≡ (bit (holds s register) place && not (eqb place x))
unfolding xor
clear_bit s request later register x legal sets turns place =
    bits_turned (next s request) later register (2 ^ x) (legal_kept s legal request) place turns
    ∙ rw (set_bit s request register x legal sets place, bit_of_power x place) (set_and_turned (bit (holds s register) place) (eqb place x))
  where
    set_and_turned : (t here : Bool) → xor (t || here) here ≡ (t && not here)
    set_and_turned true true = refl
    set_and_turned true false = refl
    set_and_turned false true = refl
    set_and_turned false false = refl
