-- What c and v promise a programmer. Without a carry, the value of a sum is the true sum, and with one it is 2 ^ 32 below it; where nothing
-- was borrowed, the value of a difference is the true difference. Without overflow, the value read as a signed number is the true signed
-- result. The definitions of c and v are guarded so by something other than their own text.
use Rattle.std.proofs.Common.{◌≡◌, ℕ, ◌+◌, ◌-◌, ◌%◌, ◌^◌, ◌<◌, ◌≤◌, Bool, true, false, pos, ◌+ℤ◌, ◌-ℤ◌, sym, ◌∙◌, arith, leb-false, leb-true}
use mir.Val.{bool_byte as num}
use Rattle.words.specs.Words.{wordn, signed}
use Rattle.words.proofs.FlagNumbers.{num_le}
use Rattle.alu.specs.Alu.{sum, sum_carry, sum_overflow, difference, difference_carry, difference_overflow}
use Rattle.alu.proofs.Sums.{sum_lt, difference_lt, added_back, nothing_borrowed}
use Rattle.alu.proofs.Differences as Differences
use Rattle.alu.proofs.SignedWords.{under, out, under_whole, Place, high, low, place, signed_is, signed_sum_is, signed_difference_is, not_out, sum_overflow_is, difference_overflow_is}

-- ---- the words as they are

pub sum_without_carry : (a b : ℕ) (carry : Bool) → sum_carry a b carry ≡ false → sum a b carry ≡ a + b + num carry
unfolding sum sum_carry wordn
sum_without_carry a b carry e = omega (arith, leb-false (2 ^ 32) (a + b + num carry) e)

pub sum_with_carry : (a b : ℕ) (carry : Bool) → a < 2 ^ 32 → b < 2 ^ 32 → sum_carry a b carry ≡ true → sum a b carry + 2 ^ 32 ≡ a + b + num carry
unfolding sum sum_carry wordn
sum_with_carry a b carry ha hb e = omega (arith, leb-true (2 ^ 32) (a + b + num carry) e, num_le carry)

pub difference_without_borrow : (a b : ℕ) (borrow : Bool) → a < 2 ^ 32 → b < 2 ^ 32 → difference_carry a b borrow ≡ true → difference a b borrow + b + num borrow ≡ a
difference_without_borrow a b borrow ha hb e =
    omega (
      arith,
      leb-true (b + num borrow) a (sym (nothing_borrowed a b borrow ha hb) ∙ e),
      added_back a b borrow ha hb,
      difference_lt a b borrow,
    )

pub difference_with_borrow : (a b : ℕ) → a < 2 ^ 32 → b < 2 ^ 32 → difference_carry a b false ≡ false → difference a b false + b ≡ a + 2 ^ 32
difference_with_borrow a b ha hb e =
    omega (
      arith,
      leb-false (b + 0) a (sym (nothing_borrowed a b false ha hb) ∙ e),
      added_back a b false ha hb,
      difference_lt a b false,
    )

-- ---- the words as signed numbers

-- Two numbers of one range of 2 ^ 32 that differ by a multiple of 2 ^ 32 are one: a word that the true result leaves, and that result,
-- where it is not outside.
within : (r p q : ℕ) → Place r → r < 2 ^ 32 → (r + q) % 2 ^ 32 ≡ p % 2 ^ 32 → (q ≤ p + 2 ^ 31) × (p ≤ 2 ^ 31 - 1 + q) → r + q ≡ p + under r
within r p q (high e h) hr same i = omega arith
within r p q (low e h) hr same i = omega arith

true_result : (r p q : ℕ) → r < 2 ^ 32 → (r + q) % 2 ^ 32 ≡ p % 2 ^ 32 → out p q ≡ false → signed r ≡ pos p -ℤ pos q
true_result r p q hr same clear = signed_is r ∙ Differences.same r (under r) p q (within r p q (place r hr) hr same (not_out p q clear))

pub sum_without_overflow : (a b : ℕ) (carry : Bool) → sum_overflow a b carry ≡ false → signed (sum a b carry) ≡ signed a +ℤ signed b +ℤ pos (num carry)
unfolding sum wordn
sum_without_overflow a b carry e =
    true_result (sum a b carry) (a + b + num carry) (under a + under b) (sum_lt a b carry)
    (omega (arith, under_whole a, under_whole b)) (sym (sum_overflow_is a b carry) ∙ e)
    ∙ sym (signed_sum_is a b carry)

pub difference_without_overflow : (a b : ℕ) (borrow : Bool) → a < 2 ^ 32 → b < 2 ^ 32 → difference_overflow a b borrow ≡ false → signed (difference a b borrow) ≡ signed a -ℤ signed b -ℤ pos (num borrow)
difference_without_overflow a b borrow ha hb e =
    true_result (difference a b borrow) (a + under b) (under a + b + num borrow) (difference_lt a b borrow)
    (omega (arith, under_whole a, under_whole b, added_back a b borrow ha hb)) (sym (difference_overflow_is a b borrow) ∙ e)
    ∙ sym (signed_difference_is a b borrow)
