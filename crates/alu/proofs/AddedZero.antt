-- A word and zero: the sum is the word itself, without carry and without overflow.
use Rattle.std.proofs.Common.{◌≡◌, ℕ, ◌+◌, ◌^◌, ◌<◌, Bool, true, false, not, sym, refl, ◌∙◌, arith}
use mathlib.Core.Bool.{xor}
use borrow.Author.Tests.{lt-leb}
use Rattle.words.specs.Words.{wordn, negp}
use Rattle.words.proofs.Cases.{and_right}
use Rattle.alu.specs.Alu.{sum, sum_carry, sum_overflow, added, plain}
use Rattle.alu.proofs.OverflowBySigns.{sum_by_signs}

same_sign : (t : Bool) → xor t t ≡ false
unfolding xor
same_sign true = refl
same_sign false = refl

module _ (a : ℕ) (word : a < 2 ^ 32) where
  value : sum a 0 false ≡ a
  unfolding sum wordn
  value = omega arith

  no_carry : sum_carry a 0 false ≡ false
  unfolding sum_carry
  no_carry = lt-leb (2 ^ 32) (a + 0 + 0) (omega arith)

  no_overflow : sum_overflow a 0 false ≡ false
  no_overflow =
      sym (sum_by_signs a 0 false word (omega arith)) ∙ rw (value, same_sign (negp a)) (and_right (not (xor (negp a) (negp 0))))

  pub added_zero : added a 0 false ≡ plain a
  unfolding added plain
  added_zero = rw (value, no_carry, no_overflow)
