-- Which of two numbers is below the other, tests that follow one another, a test turned round, a choice without a branch, two tests at
-- once: what a proof by cases starts from.
use Prim.Native.Nat.{ℕ, ◌≤◌, ◌<◌}
use mathlib.Core.Path.{◌≡◌, refl, sym, ◌∙◌}
use mathlib.Core.Bool.{Bool, true, false, false≢true, not, cond, ◌&&◌, ◌||◌}
use mathlib.Core.Logic.{◌⊎◌, inl, inr, ⊎_elim}
use lib.Dec.{ltb}
use borrow.Author.Tests.{lt-ltb, le-ltb, ltb-true, ltb-false}

pub lt_or_le : (a b : ℕ) → (a < b) ⊎ (b ≤ a)
lt_or_le a b = by_test (ltb a b) refl
  where
    by_test : (t : Bool) → ltb a b ≡ t → (a < b) ⊎ (b ≤ a)
    by_test true e = inl (ltb-true a b e)
    by_test false e = inr (ltb-false a b e)

-- two tests give the same where each outcome of the first brings that of the second
pub same_test : (a b c d : ℕ) → (a < b → c < d) → (b ≤ a → d ≤ c) → ltb a b ≡ ltb c d
same_test a b c d f g =
    ⊎_elim (λ p. lt-ltb a b p ∙ sym (lt-ltb c d (f p))) (λ p. le-ltb a b p ∙ sym (le-ltb c d (g p))) (lt_or_le a b)

pub turned : (b : Bool) → not b ≡ true → b ≡ false
turned true e = sym e
turned false e = refl

pub upright : (b : Bool) → not b ≡ false → b ≡ true
upright true e = refl
upright false e = sym e

-- a choice made without a branch
pub chosen : (take new old : Bool) → ((take && new) || (not take && old)) ≡ cond take new old
chosen true true old = refl
chosen true false old = refl
chosen false new old = refl

-- ---- of two tests one holds, or both
pub one_of : (x y : Bool) → (x || y) ≡ true → (x ≡ true) ⊎ (y ≡ true)
one_of true y t = inl refl
one_of false y t = inr t

pub or_right : (x : Bool) → (x || true) ≡ true
or_right true = refl
or_right false = refl

pub and_right : (x : Bool) → (x && false) ≡ false
and_right true = refl
and_right false = refl

pub both_of : (x y : Bool) → (x && y) ≡ true → (x ≡ true) × (y ≡ true)
both_of true y t = (refl, t)
both_of false y t = absurd (false≢true t)
