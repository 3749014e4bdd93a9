-- What holds of each kind of instruction holds of every entry of the list: the laws about all steps go through here. A case knows its entry
-- where a law has to tell it from the others, and whether the value that it computes is a word.
use Prim.Native.Nat.{ℕ, ◌^◌, ◌<◌}
use native.Mathlib.Nat.{lt_of_le_of_lt}
use native.Mathlib.Omega.{arith}
use mathlib.Core.Path.{◌≡◌, refl}
use mathlib.Core.Logic.{◌⊎◌, inl, inr}
use mathlib.Core.Bool.{Bool, true, false, cond}
use mathlib.Core.List.{List}
use lib.Bits.{bit_and, and_le_l, or_lt, xor_lt}
use lib.Dec.{eqb}
use borrow.Author.Tests.{eqb-true}
use Rattle.words.specs.Words.{wordn, bnot, msb}
use Rattle.words.specs.Shifter.{shl, shr, asr}
use Rattle.words.proofs.FlagNumbers.{num_le}
use Rattle.alu.specs.declared.AluOutput.{AluOutput}
use Rattle.alu.specs.Alu.{added, subtracted, plain}
use Rattle.alu.proofs.Sums.{sum_lt, difference_lt}
use Rattle.macro_meaning.specs.declared.Operands.{Operands}
use Rattle.macro_meaning.specs.declared.Effect.{Effect}
use Rattle.macro_meaning.specs.Instructions.{jmp, call, int, eint, rti, rtn, gpsw, ppsw, ld, st, shift, arithmetic, logic, noop, computation, effect, eint_key}

-- ---- words computed from words

shl_fits : (a : ℕ) → shl a < 2 ^ 32
unfolding shl wordn
shl_fits a = omega arith

shr_fits : (a : ℕ) → a < 2 ^ 32 → shr a < 2 ^ 32
unfolding shr
shr_fits a h = omega arith

asr_fits : (a : ℕ) → a < 2 ^ 32 → asr a < 2 ^ 32
unfolding asr
asr_fits a h = omega (arith, num_le (msb a))

both : (a b : ℕ) → a < 2 ^ 32 → bit_and a b < 2 ^ 32
both a b h = lt_of_le_of_lt (and_le_l a b) h

complement : (a : ℕ) → bnot a < 2 ^ 32
unfolding bnot
complement a = omega arith

ruleset words = (shl_fits, shr_fits, asr_fits, both, or_lt, xor_lt, complement)

-- ---- the kinds

-- the operands of a computation are words
pub record OperandWords (o : Operands) : Type 0 where
  pub a : o.a < 2 ^ 32
  pub b : o.b < 2 ^ 32
  pub imm : o.imm < 2 ^ 32

module _ (key : ℕ) (mem : List ℕ) (o : Operands) (P : Effect → Type 0) where
  pub record Kinds : Type 0 where
    pub jmp_kind : P (jmp o)
    pub call_kind : key ≡ 1 → P (call o)
    pub int_kind : key ≡ 2 → P (int o)
    pub rti_kind : key ≡ 3 → P (rti mem o)
    pub gpsw_kind : P (gpsw o)
    pub ppsw_kind : P (ppsw o)
    pub ld_kind : (offset : ℕ) → P (ld mem o offset)
    pub st_kind : (key ≡ 7) ⊎ (key ≡ 15) → (offset : ℕ) → P (st o offset)
    pub shift_kind : (value : ℕ) (out : Bool) → (OperandWords o → value < 2 ^ 32) → P (shift o value out)
    pub rtn_kind : P (rtn mem o)
    pub eint_kind : key ≡ eint_key → P (eint o)
    pub arithmetic_kind : (out : AluOutput) → out.value < 2 ^ 32 → P (arithmetic o out)
    pub logic_kind : (out : AluOutput) → (OperandWords o → out.value < 2 ^ 32) → P (logic o out)
    pub noop_kind : P (noop o)

  choose : (k : ℕ) {x y : Effect} → (key ≡ k → P x) → P y → P (cond (eqb key k) x y)
  choose k {x} {y} taken other = by_test (eqb key k) refl
    where
      by_test : (t : Bool) → eqb key k ≡ t → P (cond t x y)
      by_test true e = taken (eqb-true key k e)
      by_test false e = other

  module _ (k : Kinds) where
    sums : (a b : ℕ) (carry : Bool) → P (arithmetic o (added a b carry))
    unfolding added
    sums a b carry = k.arithmetic_kind (added a b carry) (sum_lt a b carry)

    differences : (a b : ℕ) (borrow : Bool) → P (arithmetic o (subtracted a b borrow))
    unfolding subtracted
    differences a b borrow = k.arithmetic_kind (subtracted a b borrow) (difference_lt a b borrow)

    bits : (value : ℕ) → (OperandWords o → value < 2 ^ 32) → P (logic o (plain value))
    unfolding plain
    bits value word = k.logic_kind (plain value) word

    computed : P (computation key o)
    unfolding computation
    computed =
        choose 16 (λ e. sums _ _ _)
        (choose 17 (λ e. sums _ _ _)
        (choose 18 (λ e. differences _ _ _)
        (choose 19 (λ e. differences _ _ _)
        (choose 20 (λ e. bits _ (λ w. search words))
        (choose 21 (λ e. bits _ (λ w. search words))
        (choose 22 (λ e. bits _ (λ w. search words))
        (choose 23 (λ e. bits _ (λ w. search words))
        (choose 24 (λ e. sums _ _ _)
        (choose 25 (λ e. sums _ _ _)
        (choose 26 (λ e. differences _ _ _)
        (choose 27 (λ e. differences _ _ _)
        (choose 28 (λ e. bits _ (λ w. search words))
        (choose 29 (λ e. bits _ (λ w. search words))
        (choose 30 (λ e. bits _ (λ w. search words))
        k.noop_kind))))))))))))))

    pub every : P (effect key mem o)
    unfolding effect
    every =
        choose 0 (λ e. k.jmp_kind)
        (choose 1 k.call_kind
        (choose 2 k.int_kind
        (choose 3 k.rti_kind
        (choose 4 (λ e. k.gpsw_kind)
        (choose 5 (λ e. k.ppsw_kind)
        (choose 6 (λ e. k.ld_kind _)
        (choose 7 (λ e. k.st_kind (inl e) _)
        (choose 8 (λ e. k.shift_kind _ _ (λ w. search words))
        (choose 9 (λ e. k.shift_kind _ _ (λ w. search words))
        (choose 10 (λ e. k.shift_kind _ _ (λ w. search words))
        (choose 11 (λ e. k.rtn_kind)
        (choose 14 (λ e. k.ld_kind _)
        (choose 15 (λ e. k.st_kind (inr e) _)
        (choose eint_key k.eint_kind
        computed))))))))))))))
