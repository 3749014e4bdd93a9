-- Overflow is seen from three signs: a sum overflows where its operands have one sign and the value the other, a difference where its
-- operands have two signs and the value not the first one's. Each of the eight cases is linear arithmetic.
use Rattle.std.proofs.Common.{◌≡◌, ℕ, ◌+◌, ◌%◌, ◌^◌, ◌<◌, ◌≤◌, Bool, not, ◌&&◌, sym, refl, inl, inr, arith}
use mathlib.Core.Bool.{xor}
use mir.Val.{bool_byte as num}
use Rattle.words.specs.Words.{wordn, negp}
use Rattle.words.proofs.FlagNumbers.{num_le}
use Rattle.alu.specs.Alu.{sum, sum_overflow, difference, difference_overflow}
use Rattle.alu.proofs.SignedWords.{Sign, under, out, sign, in_range, too_low, too_high, sum_overflow_is, difference_overflow_is}
use Rattle.alu.proofs.Sums.{sum_lt, difference_lt, added_back}

sum_cases : (a b k r : ℕ) → a < 2 ^ 32 → b < 2 ^ 32 → k ≤ 1 → r ≡ (a + b + k) % 2 ^ 32 → Sign a → Sign b → Sign r → (not (xor (negp a) (negp b)) && xor (negp a) (negp r)) ≡ out (a + b + k) (under a + under b)
unfolding xor
sum_cases a b k r ha hb hk e (inl x) (inl y) (inl z) = rw (x.0, y.0, z.0) (sym (in_range (a + b + k) (2 ^ 32 + 2 ^ 32) (omega arith) (omega arith)))
sum_cases a b k r ha hb hk e (inl x) (inl y) (inr z) = rw (x.0, y.0, z.0) (sym (too_low (a + b + k) (2 ^ 32 + 2 ^ 32) (omega arith)))
sum_cases a b k r ha hb hk e (inl x) (inr y) z = rw (x.0, y.0) (sym (in_range (a + b + k) (2 ^ 32 + 0) (omega arith) (omega arith)))
sum_cases a b k r ha hb hk e (inr x) (inl y) z = rw (x.0, y.0) (sym (in_range (a + b + k) (0 + 2 ^ 32) (omega arith) (omega arith)))
sum_cases a b k r ha hb hk e (inr x) (inr y) (inl z) = rw (x.0, y.0, z.0) (sym (too_high (a + b + k) (0 + 0) (omega arith)))
sum_cases a b k r ha hb hk e (inr x) (inr y) (inr z) = rw (x.0, y.0, z.0) (sym (in_range (a + b + k) (0 + 0) (omega arith) (omega arith)))

pub sum_by_signs : (a b : ℕ) (carry : Bool) → a < 2 ^ 32 → b < 2 ^ 32 → (not (xor (negp a) (negp b)) && xor (negp a) (negp (sum a b carry))) ≡ sum_overflow a b carry
unfolding sum wordn
sum_by_signs a b carry ha hb =
    rw (sum_overflow_is a b carry) (sum_cases a b (num carry) (sum a b carry) ha hb (num_le carry) refl (sign a ha) (sign b hb) (sign (sum a b carry) (sum_lt a b carry)))

difference_cases : (a b k r : ℕ) → a < 2 ^ 32 → b < 2 ^ 32 → k ≤ 1 → (r + b + k) % 2 ^ 32 ≡ a → r < 2 ^ 32 → Sign a → Sign b → Sign r → (xor (negp a) (negp b) && xor (negp a) (negp r)) ≡ out (a + under b) (under a + b + k)
unfolding xor
difference_cases a b k r ha hb hk e hr (inl x) (inl y) z = rw (x.0, y.0) (sym (in_range (a + 2 ^ 32) (2 ^ 32 + b + k) (omega arith) (omega arith)))
difference_cases a b k r ha hb hk e hr (inl x) (inr y) (inl z) = rw (x.0, y.0, z.0) (sym (in_range (a + 0) (2 ^ 32 + b + k) (omega arith) (omega arith)))
difference_cases a b k r ha hb hk e hr (inl x) (inr y) (inr z) = rw (x.0, y.0, z.0) (sym (too_low (a + 0) (2 ^ 32 + b + k) (omega arith)))
difference_cases a b k r ha hb hk e hr (inr x) (inl y) (inl z) = rw (x.0, y.0, z.0) (sym (too_high (a + 2 ^ 32) (0 + b + k) (omega arith)))
difference_cases a b k r ha hb hk e hr (inr x) (inl y) (inr z) = rw (x.0, y.0, z.0) (sym (in_range (a + 2 ^ 32) (0 + b + k) (omega arith) (omega arith)))
difference_cases a b k r ha hb hk e hr (inr x) (inr y) z = rw (x.0, y.0) (sym (in_range (a + 0) (0 + b + k) (omega arith) (omega arith)))

pub difference_by_signs : (a b : ℕ) (borrow : Bool) → a < 2 ^ 32 → b < 2 ^ 32 → (xor (negp a) (negp b) && xor (negp a) (negp (difference a b borrow))) ≡ difference_overflow a b borrow
difference_by_signs a b borrow ha hb =
    let r = difference a b borrow in
    let hr : r < 2 ^ 32 = difference_lt a b borrow in
    rw (difference_overflow_is a b borrow)
    (difference_cases a b (num borrow) r ha hb (num_le borrow) (added_back a b borrow ha hb) hr (sign a ha) (sign b hb) (sign r hr))
