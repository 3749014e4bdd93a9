-- THE SHIFTS move by one bit, and the bit that falls out goes into c: nothing is lost between the register and c. The other flags are kept.
use Prim.Native.Nat.{ℕ, ◌+◌, ◌*◌, ◌/◌, ◌%◌, ◌^◌, ◌<◌, ◌≤◌}
use native.Mathlib.Omega.{arith}
use mathlib.Core.Path.{◌≡◌, ap, ap₂, ◌∙◌}
use mathlib.Core.Bool.{Bool, true}
use lib.Dec.{eqb}
use mir.Val.{bool_byte as num}
use Rattle.words.specs.Words.{wordn, bit, msb, lsb, negp}
use Rattle.words.specs.Shifter.{shl, shr, asr}
use Rattle.words.specs.Fields.{dest, srca}
use Rattle.words.specs.Registers.{update_reg}
use Rattle.words.proofs.FlagNumbers.{num_le}
use Rattle.status.proofs.PswNumbers.{num_bit}
use Rattle.macro_meaning.specs.Effects.{inc}
use Rattle.macro_meaning.specs.Instructions.{shift, effect}
use Rattle.macro_meaning.specs.Step.{Macro}
use Rattle.macro_meaning.specs.Programs.{next, instruction, holds, Legal, Does, writable}
use Rattle.macro_meaning.proofs.StepsTaken.{does, holds_it}

-- ---- of words

left_doubles : (x : ℕ) → x < 2 ^ 32 → num (msb x) * 2 ^ 32 + shl x ≡ 2 * x
unfolding msb shl wordn
left_doubles x h = omega (arith, num_bit x 31)

right_halves : (x : ℕ) → 2 * shr x + num (lsb x) ≡ x
unfolding lsb shr
right_halves x = omega (arith, num_bit x 0)

right_halves_signed : (x : ℕ) → 2 * asr x + num (lsb x) ≡ x + num (negp x) * 2 ^ 32
unfolding lsb asr msb negp
right_halves_signed x = omega (arith, num_bit x 0)

top_digit : (q n : ℕ) → q < 2 ^ 31 → n ≤ 1 → (q + n * 2 ^ 31) / 2 ^ 31 % 2 ≡ n
top_digit q n h k = omega arith

sign_kept : (x : ℕ) → x < 2 ^ 32 → negp (asr x) ≡ negp x
unfolding asr negp msb bit
sign_kept x h =
    ap (λ (digit : ℕ). eqb digit 1) (top_digit (x / 2) (num (bit x 31)) (omega arith) (num_le (bit x 31)) ∙ num_bit x 31)

-- ---- the whole state after each

-- a state one instruction on: a value in R[d], under the register rule, and a bit in c; the other flags are kept
abbrev pub put_shifted : Macro → ℕ → Bool → Macro
put_shifted s value out =
    let p = s.machine.psw in
    record {
      machine = record {
        registers = update_reg p.sm (dest (instruction s)) s.machine.registers value;
        psw = record { sm = p.sm; ie = p.ie; v = p.v; n = p.n; c = out; z = p.z };
        pc = inc s.machine.pc;
        ivec = s.machine.ivec;
      };
      memory = s.memory;
    }

module _ (s : Macro) (request : Bool) where
  abbrev old : ℕ
  old = holds s (srca (instruction s))

  pub lsl_puts : Does 8 s request → next s request ≡ put_shifted s (shl old) (msb old)
  unfolding effect shift
  lsl_puts d = does s request d

  pub lsr_puts : Does 9 s request → next s request ≡ put_shifted s (shr old) (lsb old)
  unfolding effect shift
  lsr_puts d = does s request d

  pub asr_puts : Does 10 s request → next s request ≡ put_shifted s (asr old) (lsb old)
  unfolding effect shift
  asr_puts d = does s request d

  -- ---- the destination and c, where the destination is writable

  module _ (legal : Legal s) (free : writable s (dest (instruction s)) ≡ true) where
    abbrev new : ℕ
    new = holds (next s request) (dest (instruction s))

    abbrev out : Bool
    out = (next s request).machine.psw.c

    new_is : (value : ℕ) (c : Bool) → next s request ≡ put_shifted s value c → new ≡ value
    new_is value c puts = ap (λ (t : Macro). holds t (dest (instruction s))) puts ∙ holds_it s legal (instruction s) value free

    out_is : (value : ℕ) (c : Bool) → next s request ≡ put_shifted s value c → out ≡ c
    out_is value c puts = ap (λ (t : Macro). t.machine.psw.c) puts

    -- LSL: c and R[d] together are twice R[a]
    pub lsl_doubles : Does 8 s request → num out * 2 ^ 32 + new ≡ 2 * old
    lsl_doubles d =
        ap₂ (λ (c : Bool) (value : ℕ). num c * 2 ^ 32 + value)
        (out_is (shl old) (msb old) (lsl_puts d)) (new_is (shl old) (msb old) (lsl_puts d))
        ∙ left_doubles old (legal.words (srca (instruction s)))

    -- LSR: R[d] is half of R[a], and c what is left over
    pub lsr_halves : Does 9 s request → 2 * new + num out ≡ old
    lsr_halves d =
        ap₂ (λ (c : Bool) (value : ℕ). 2 * value + num c) (out_is (shr old) (lsb old) (lsr_puts d)) (new_is (shr old) (lsb old) (lsr_puts d))
        ∙ right_halves old

    -- ASR: as signed numbers, 2 R[d] + c is R[a], and the sign stays. Said of the words as they are, 2 ^ 32 more on the right where R[a] is
    -- negative.
    pub asr_halves : Does 10 s request → (2 * new + num out ≡ old + num (negp old) * 2 ^ 32) × (negp new ≡ negp old)
    asr_halves d = (
      ap₂ (λ (c : Bool) (value : ℕ). 2 * value + num c) (out_is (asr old) (lsb old) (asr_puts d)) (new_is (asr old) (lsb old) (asr_puts d))
          ∙ right_halves_signed old,
      ap negp (new_is (asr old) (lsb old) (asr_puts d)) ∙ sign_kept old (legal.words (srca (instruction s))),
    )
