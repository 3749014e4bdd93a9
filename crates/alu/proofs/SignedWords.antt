-- What a signed word and its overflow are in the naturals: the bridge from the integers of specs/ to what the code computes and `omega`
-- decides. A word w below 2 ^ 32 is w - `under` w, with 2 ^ 32 taken off where bit 31 is set.
use Rattle.std.proofs.Common.{◌≡◌, ℕ, ◌+◌, ◌-◌, ◌/◌, ◌%◌, ◌^◌, ◌<◌, ◌≤◌, Bool, true, false, cond, ◌||◌, ltb, ◌⊎◌, pos, ◌+ℤ◌, ◌-ℤ◌, neg_ℤ, sym, refl, ap, ◌∙◌, ap₂, inl, inr, ⊎_elim, true≢false, add-zero, zero-add, arith, ltb-false, le-ltb, lt-ltb, eq-eqb, ne_eqb}
use lib.IntN.{+ℤ_idl}
use mir.Val.{bool_byte as num}
use Rattle.words.specs.Words.{negp, msb, bit, signed, outside}
use Rattle.alu.specs.Alu.{sum_overflow, difference_overflow}
use Rattle.words.proofs.Cases.{lt_or_le}
use Rattle.alu.proofs.Differences as Differences

-- what the sign takes off
abbrev pub under : ℕ → ℕ
under w = cond (negp w) (2 ^ 32) 0

pub under_whole : (w : ℕ) → under w % 2 ^ 32 ≡ 0
under_whole w = by_sign (negp w)
  where
    by_sign : (s : Bool) → cond s (2 ^ 32) 0 % 2 ^ 32 ≡ 0
    by_sign true = refl
    by_sign false = refl

pub signed_is : (w : ℕ) → signed w ≡ pos w -ℤ pos (under w)
unfolding signed
signed_is w = by_sign (negp w)
  where
    by_sign : (s : Bool) → cond s (pos w -ℤ pos (2 ^ 32)) (pos w) ≡ pos w -ℤ pos (cond s (2 ^ 32) 0)
    by_sign true = refl
    by_sign false = ap pos (sym (add-zero w))

-- a natural as a difference
natural : (n : ℕ) → pos n -ℤ pos 0 ≡ pos n
natural n = ap pos (add-zero n)

-- a difference is outside exactly where one of two sums is below another
abbrev pub out : ℕ → ℕ → Bool
out p q = ltb (p + 2 ^ 31) q || ltb (2 ^ 31 - 1 + q) p

pub outside_is : (p q : ℕ) → outside (pos p -ℤ pos q) ≡ out p q
unfolding outside
outside_is p q =
    ap₂ ◌||◌
    (Differences.less p q 0 (2 ^ 31) ∙ ap (ltb (p + 2 ^ 31)) (zero-add q))
    (Differences.less (2 ^ 31 - 1) 0 p q ∙ ap (ltb (2 ^ 31 - 1 + q)) (add-zero p))

-- the true signed results, as differences
pub signed_sum_is : (a b : ℕ) (carry : Bool) → signed a +ℤ signed b +ℤ pos (num carry) ≡ pos (a + b + num carry) -ℤ pos (under a + under b)
signed_sum_is a b carry =
    rw (
      signed_is a,
      signed_is b,
      Differences.add a (under a) b (under b),
      ← natural (num carry),
      Differences.add (a + b) (under a + under b) (num carry) 0,
      add-zero,
    )

pub signed_difference_is : (a b : ℕ) (borrow : Bool) → signed a -ℤ signed b -ℤ pos (num borrow) ≡ pos (a + under b) -ℤ pos (under a + b + num borrow)
signed_difference_is a b borrow =
    rw (
      signed_is a,
      signed_is b,
      Differences.negate b (under b),
      Differences.add a (under a) (under b) b,
      ← +ℤ_idl (neg_ℤ (pos (num borrow))),
      Differences.add (a + under b) (under a + b) 0 (num borrow),
      add-zero,
    )

pub sum_overflow_is : (a b : ℕ) (carry : Bool) → sum_overflow a b carry ≡ out (a + b + num carry) (under a + under b)
unfolding sum_overflow
sum_overflow_is a b carry = ap outside (signed_sum_is a b carry) ∙ outside_is (a + b + num carry) (under a + under b)

pub difference_overflow_is : (a b : ℕ) (borrow : Bool) → difference_overflow a b borrow ≡ out (a + under b) (under a + b + num borrow)
unfolding difference_overflow
difference_overflow_is a b borrow = ap outside (signed_difference_is a b borrow) ∙ outside_is (a + under b) (under a + b + num borrow)

-- a word's sign, with what it says of the number
abbrev pub Sign : ℕ → Type 0
Sign w = ((negp w ≡ true) × (2 ^ 31 ≤ w)) ⊎ ((negp w ≡ false) × (w < 2 ^ 31))

pub sign : (w : ℕ) → w < 2 ^ 32 → Sign w
unfolding negp msb bit
sign w h =
    ⊎_elim (λ p. inr (ne_eqb (w / 2 ^ 31 % 2) 1 (λ e. omega arith), p)) (λ p. inl (eq-eqb (w / 2 ^ 31 % 2) 1 (omega arith), p)) (lt_or_le w (2 ^ 31))

-- the same said of what the sign takes off
pub data Place (w : ℕ) : Type 0 where
  high : under w ≡ 2 ^ 32 → 2 ^ 31 ≤ w → Place w
  low : under w ≡ 0 → w < 2 ^ 31 → Place w

pub place : (w : ℕ) → w < 2 ^ 32 → Place w
place w h = ⊎_elim (λ s. high (rw s.0) s.1) (λ s. low (rw s.0) s.1) (sign w h)

-- where a difference lies, and so whether it is out
pub in_range : (p q : ℕ) → q ≤ p + 2 ^ 31 → p ≤ 2 ^ 31 - 1 + q → out p q ≡ false
in_range p q h k = simp (le-ltb (p + 2 ^ 31) q h, le-ltb (2 ^ 31 - 1 + q) p k)

pub too_low : (p q : ℕ) → p + 2 ^ 31 < q → out p q ≡ true
too_low p q h = simp (lt-ltb (p + 2 ^ 31) q h)

pub too_high : (p q : ℕ) → 2 ^ 31 - 1 + q < p → out p q ≡ true
too_high p q h = simp (le-ltb (p + 2 ^ 31) q (omega arith), lt-ltb (2 ^ 31 - 1 + q) p h)

pub not_out : (p q : ℕ) → out p q ≡ false → (q ≤ p + 2 ^ 31) × (p ≤ 2 ^ 31 - 1 + q)
not_out p q e = both (ltb (p + 2 ^ 31) q) (ltb (2 ^ 31 - 1 + q) p) refl refl e
  where
    both : (x y : Bool) → ltb (p + 2 ^ 31) q ≡ x → ltb (2 ^ 31 - 1 + q) p ≡ y → (x || y) ≡ false → (q ≤ p + 2 ^ 31) × (p ≤ 2 ^ 31 - 1 + q)
    both true y f g h = absurd (true≢false h)
    both false true f g h = absurd (true≢false h)
    both false false f g h = (ltb-false (p + 2 ^ 31) q f, ltb-false (2 ^ 31 - 1 + q) p g)
