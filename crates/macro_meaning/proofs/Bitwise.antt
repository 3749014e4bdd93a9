-- BAND, BOR, BXOR, BNOT and their immediate forms work bit by bit: z and n show the result, c and v are kept. The immediate has 16 bits and
-- zeros above them, so BANDI clears bits 16 to 31.
use Prim.Native.Nat.{ℕ, ◌<◌}
use mathlib.Core.Path.{◌≡◌, ap, ◌∙◌}
use mathlib.Core.Bool.{Bool, true, not, xor, ◌&&◌, ◌||◌}
use lib.Bits.{bit_and, bit_or, bit_xor}
use Rattle.words.specs.Words.{bit, bnot, negp, zerop}
use Rattle.words.specs.Fields.{dest, srca}
use Rattle.words.specs.Registers.{update_reg}
use Rattle.words.proofs.BitByBit.{bit_of_and, bit_of_or, bit_of_xor, bit_of_bnot}
use Rattle.alu.specs.Alu.{plain}
use Rattle.macro_meaning.specs.Effects.{inc}
use Rattle.macro_meaning.specs.Instructions.{logic, computation, effect}
use Rattle.macro_meaning.specs.Step.{Macro}
use Rattle.macro_meaning.specs.Programs.{next, instruction, holds, Legal, Does, Operates, on_registers, with_immediate, writable}
use Rattle.macro_meaning.proofs.StepsTaken.{does, holds_it}

-- a state one instruction on: a value in R[d], under the register rule, and z and n by it
abbrev pub put_bits : Macro → ℕ → Macro
put_bits s value =
    let p = s.machine.psw in
    record {
      machine = record {
        registers = update_reg p.sm (dest (instruction s)) s.machine.registers value;
        psw = record { sm = p.sm; ie = p.ie; v = p.v; n = negp value; c = p.c; z = zerop value };
        pc = inc s.machine.pc;
        ivec = s.machine.ivec;
      };
      memory = s.memory;
    }

-- ---- the whole state after each

module _ (s : Macro) (request : Bool) where
  pub band_puts : {a b : ℕ} → Operates 20 28 s request a b → next s request ≡ put_bits s (bit_and a b)
  unfolding effect computation logic plain
  band_puts (on_registers d) = does s request d
  band_puts (with_immediate d) = does s request d

  pub bor_puts : {a b : ℕ} → Operates 21 29 s request a b → next s request ≡ put_bits s (bit_or a b)
  unfolding effect computation logic plain
  bor_puts (on_registers d) = does s request d
  bor_puts (with_immediate d) = does s request d

  pub bxor_puts : {a b : ℕ} → Operates 22 30 s request a b → next s request ≡ put_bits s (bit_xor a b)
  unfolding effect computation logic plain
  bxor_puts (on_registers d) = does s request d
  bxor_puts (with_immediate d) = does s request d

  pub bnot_puts : Does 23 s request → next s request ≡ put_bits s (bnot (holds s (srca (instruction s))))
  unfolding effect computation logic plain
  bnot_puts d = does s request d

-- ---- the bits of the destination, where it is writable; `new` is what it holds after the step

module _ (s : Macro) (request : Bool) (legal : Legal s) (free : writable s (dest (instruction s)) ≡ true) where
  abbrev new : ℕ
  new = holds (next s request) (dest (instruction s))

  new_bit : (value place : ℕ) → next s request ≡ put_bits s value → bit new place ≡ bit value place
  new_bit value place puts =
      ap (λ (t : Macro). bit (holds t (dest (instruction s))) place) puts
      ∙ ap (λ (word : ℕ). bit word place) (holds_it s legal (instruction s) value free)

  pub band_bit_by_bit : {a b : ℕ} → Operates 20 28 s request a b → (place : ℕ) → bit new place ≡ (bit a place && bit b place)
  band_bit_by_bit {a} {b} d place = new_bit (bit_and a b) place (band_puts s request d) ∙ bit_of_and a b place

  pub bor_bit_by_bit : {a b : ℕ} → Operates 21 29 s request a b → (place : ℕ) → bit new place ≡ (bit a place || bit b place)
  bor_bit_by_bit {a} {b} d place = new_bit (bit_or a b) place (bor_puts s request d) ∙ bit_of_or a b place

  pub bxor_bit_by_bit : {a b : ℕ} → Operates 22 30 s request a b → (place : ℕ) → bit new place ≡ xor (bit a place) (bit b place)
  bxor_bit_by_bit {a} {b} d place = new_bit (bit_xor a b) place (bxor_puts s request d) ∙ bit_of_xor a b place

  pub bnot_bit_by_bit : Does 23 s request → (place : ℕ) → place < 32 → bit new place ≡ not (bit (holds s (srca (instruction s))) place)
  bnot_bit_by_bit d place h =
      let a = srca (instruction s) in
      new_bit (bnot (holds s a)) place (bnot_puts s request d) ∙ bit_of_bnot (holds s a) place (legal.words a) h
