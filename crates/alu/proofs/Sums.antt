-- Values and carries of the two sums, in the words of the code: which value a wrapping sum or difference gives, and which comparisons
-- see its carry.
use Rattle.std.proofs.Common.{◌≡◌, ℕ, suc, ◌+◌, ◌-◌, ◌%◌, ◌^◌, ◌<◌, ◌≤◌, Bool, true, false, not, ◌&&◌, ◌||◌, eqb, ltb, leb, ◌⊎◌, sym, ◌∙◌, inl, inr, arith, le-ltb, lt-ltb, eq-eqb, ne_eqb, le-leb}
use lib.Dec.{leb-suc-suc}
use mir.Val.{bool_byte as num}
use borrow.Author.Tests.{lt-leb}
use Rattle.words.specs.Words.{wordn, bnot}
use Rattle.alu.specs.Alu.{sum, sum_carry, difference, difference_carry}
use Rattle.words.proofs.Cases.{lt_or_le, same_test}
use Rattle.words.proofs.FlagNumbers.{num_le, num_not}

pub sum_lt : (a b : ℕ) (carry : Bool) → sum a b carry < 2 ^ 32
unfolding sum wordn
sum_lt a b carry = omega arith

pub difference_lt : (a b : ℕ) (borrow : Bool) → difference a b borrow < 2 ^ 32
unfolding difference
difference_lt a b borrow = sum_lt a (bnot b) (not borrow)

-- what was subtracted, added back, gives a again
pub added_back : (a b : ℕ) (borrow : Bool) → a < 2 ^ 32 → b < 2 ^ 32 → (difference a b borrow + b + num borrow) % 2 ^ 32 ≡ a
unfolding difference sum wordn bnot
added_back a b borrow ha hb = omega (arith, num_not borrow)

-- one added, one taken off
pub off_again : (a : ℕ) → a < 2 ^ 32 → difference (sum a 1 false) 1 false ≡ a
unfolding difference sum wordn bnot
off_again a ha = omega arith

-- in two steps, as the code takes them
pub sum_is : (a b p r : ℕ) (carry : Bool) → p ≡ (a + b) % 2 ^ 32 → r ≡ (p + num carry) % 2 ^ 32 → r ≡ sum a b carry
unfolding sum wordn
sum_is a b p r carry e f = omega arith

pub difference_is : (a b p r : ℕ) (borrow : Bool) → a < 2 ^ 32 → b < 2 ^ 32 → p ≡ (a + (2 ^ 32 - b)) % 2 ^ 32 → r ≡ (p + (2 ^ 32 - num borrow)) % 2 ^ 32
    → r ≡ difference a b borrow
unfolding difference sum wordn bnot
difference_is a b p r borrow ha hb e f = omega (arith, num_not borrow)

-- a sum that wrapped is below its operand, in either step
pub sum_carry_is : (a b p r : ℕ) (carry : Bool) → a < 2 ^ 32 → b < 2 ^ 32 → p ≡ (a + b) % 2 ^ 32 → r ≡ (p + num carry) % 2 ^ 32 → (ltb p a || ltb r p) ≡ sum_carry a b carry
unfolding sum_carry
sum_carry_is a b p r carry ha hb e f = split (lt_or_le (a + b) (2 ^ 32)) (lt_or_le (a + b + num carry) (2 ^ 32))
  where
    split : (a + b < 2 ^ 32) ⊎ (2 ^ 32 ≤ a + b) → (a + b + num carry < 2 ^ 32) ⊎ (2 ^ 32 ≤ a + b + num carry) → (ltb p a || ltb r p) ≡ leb (2 ^ 32) (a + b + num carry)
    split (inl x) (inl y) = simp (le-ltb p a (omega arith), le-ltb r p (omega arith), lt-leb (2 ^ 32) (a + b + num carry) y)
    split (inl x) (inr y) = simp (le-ltb p a (omega arith), lt-ltb r p (omega (arith, num_le carry)), le-leb (2 ^ 32) (a + b + num carry) y)
    split (inr x) z = simp (lt-ltb p a (omega arith), le-leb (2 ^ 32) (a + b + num carry) (omega arith))

-- c after a subtraction means that nothing was borrowed
pub nothing_borrowed : (a b : ℕ) (borrow : Bool) → a < 2 ^ 32 → b < 2 ^ 32 → difference_carry a b borrow ≡ leb (b + num borrow) a
unfolding difference_carry sum_carry bnot
nothing_borrowed a b borrow ha hb = same_test (2 ^ 32 - 1) whole (b + num borrow) (suc a) (λ h. omega (arith, num_not borrow)) (λ h. omega (arith, num_not borrow)) ∙ leb-suc-suc (b + num borrow) a
  where
    whole : ℕ
    whole = a + (2 ^ 32 - 1 - b) + num (not borrow)

-- that is where b is below a, or equal with no borrow in
pub difference_carry_is : (a b : ℕ) (borrow : Bool) → a < 2 ^ 32 → b < 2 ^ 32 → (ltb b a || (eqb b a && not borrow)) ≡ difference_carry a b borrow
difference_carry_is a b borrow ha hb = split borrow (lt_or_le b a) (lt_or_le a b) ∙ sym (nothing_borrowed a b borrow ha hb)
  where
    split : (t : Bool) → (b < a) ⊎ (a ≤ b) → (a < b) ⊎ (b ≤ a) → (ltb b a || (eqb b a && not t)) ≡ leb (b + num t) a
    split t (inl x) y = simp (lt-ltb b a x, le-leb (b + num t) a (omega (arith, num_le t)))
    split t (inr x) (inl y) = simp (le-ltb b a x, ne_eqb b a (λ e. omega arith), lt-leb (b + num t) a (omega arith))
    split true (inr x) (inr y) = simp (le-ltb b a x, eq-eqb b a (omega arith), lt-leb (b + 1) a (omega arith))
    split false (inr x) (inr y) = simp (le-ltb b a x, eq-eqb b a (omega arith), le-leb (b + 0) a (omega arith))
