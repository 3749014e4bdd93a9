-- What the jump codes mean to a programmer after a - b (table 5.4, p. 68): for words a and b, and a PSW whose four flags are those of
-- the subtraction, each of the codes 6 to 13 jumps exactly on the relation of a to b that it is named for. Codes 8 and 9 compare the
-- words as they are, 10 to 13 as signed numbers. Table 5.4's wording of code 13 is off: it is less or equal.
use Prim.Native.Nat.{ℕ, ◌+◌, ◌%◌, ◌^◌, ◌≤◌, ◌<◌}
use native.Mathlib.Nat.{add-zero}
use native.Mathlib.Omega.{arith}
use mathlib.Core.Path.{◌≡◌, refl, sym, ap, ◌∙◌}
use mathlib.Core.Bool.{false, not, xor, not-not, ◌&&◌, ◌||◌}
use mathlib.Core.Logic.{◌⊎◌, inl, inr}
use lib.Dec.{ltb, leb, eqb}
use lib.IntN.{ℤ, pos, negsuc}
use lib.Signed.{lt_z, le_z}
use borrow.Author.Tests.{lt-ltb, le-ltb, le-leb, lt-leb, eq-eqb, ne_eqb}
use Rattle.status.specs.declared.psw.Psw.{Psw}
use Rattle.alu.specs.declared.Flags.{Flags}
use Rattle.words.specs.Words.{negp, zerop, signed}
use Rattle.alu.specs.Alu.{subtracted, sub_without_carry, difference, difference_carry, difference_overflow}
use Rattle.status.specs.Jump.{jump_cond}
use Rattle.words.proofs.Cases.{lt_or_le}
use Rattle.alu.proofs.Sums.{difference_lt, added_back, nothing_borrowed}
use Rattle.alu.proofs.Differences as Differences
use Rattle.alu.proofs.SignedWords.{Sign, under, sign, Place, high, low, place, signed_is}
use Rattle.alu.proofs.OverflowBySigns.{difference_by_signs}

-- a PSW with new flags
abbrev pub with_flags : Psw → Flags → Psw
with_flags p f = record { sm = p.sm; ie = p.ie; v = f.v; n = f.n; c = f.c; z = f.z }

-- the PSW after a - b
abbrev pub compared : Psw → ℕ → ℕ → Psw
compared p a b = with_flags p (sub_without_carry a b).flags

-- ---- the words as they are

-- z after a - b is a = b, and c is b ≤ a
zero_is : (a b : ℕ) → a < 2 ^ 32 → b < 2 ^ 32 → zerop (difference a b false) ≡ eqb a b
unfolding zerop
zero_is a b ha hb = by_order (lt_or_le a b) (lt_or_le b a)
  where
    r : ℕ
    r = difference a b false

    by_order : (a < b) ⊎ (b ≤ a) → (b < a) ⊎ (a ≤ b) → eqb r 0 ≡ eqb a b
    by_order (inl h) k = simp (ne_eqb r 0 (λ e. omega (arith, added_back a b false ha hb)), ne_eqb a b (λ e. omega arith))
    by_order (inr h) (inl k) = simp (ne_eqb r 0 (λ e. omega (arith, added_back a b false ha hb)), ne_eqb a b (λ e. omega arith))
    by_order (inr h) (inr k) = simp (eq-eqb r 0 (omega (arith, added_back a b false ha hb, difference_lt a b false)), eq-eqb a b (omega arith))

carry_is : (a b : ℕ) → a < 2 ^ 32 → b < 2 ^ 32 → difference_carry a b false ≡ leb b a
carry_is a b ha hb = nothing_borrowed a b false ha hb ∙ ap (λ (n : ℕ). leb n a) (add-zero b)

-- b ≤ a fails, or a = b: a ≤ b
lower_or_same_is : (a b : ℕ) → (not (leb b a) || eqb a b) ≡ leb a b
lower_or_same_is a b = by_order (lt_or_le a b) (lt_or_le b a)
  where
    by_order : (a < b) ⊎ (b ≤ a) → (b < a) ⊎ (a ≤ b) → (not (leb b a) || eqb a b) ≡ leb a b
    by_order (inl h) k = simp (lt-leb b a h, le-leb a b (omega arith))
    by_order (inr h) (inl k) = simp (le-leb b a h, ne_eqb a b (λ e. omega arith), lt-leb a b k)
    by_order (inr h) (inr k) = simp (le-leb b a h, eq-eqb a b (omega arith), le-leb a b k)

not_leb : (a b : ℕ) → not (leb a b) ≡ ltb b a
not_leb a b = by_order (lt_or_le b a)
  where
    by_order : (b < a) ⊎ (a ≤ b) → not (leb a b) ≡ ltb b a
    by_order (inl h) = simp (lt-leb a b h, lt-ltb b a h)
    by_order (inr h) = simp (le-leb a b h, le-ltb b a h)

-- ---- the words as signed numbers

less_is : (a b : ℕ) → lt_z (signed a) (signed b) ≡ ltb (a + under b) (b + under a)
less_is a b = rw (signed_is a, signed_is b) (Differences.less a (under a) b (under b))

-- n differs from v exactly where a is below b
sign_of_difference : (a b r : ℕ) → a < 2 ^ 32 → b < 2 ^ 32 → r < 2 ^ 32 → (r + b) % 2 ^ 32 ≡ a → Sign a → Sign b → Sign r → xor (negp r) (xor (negp a) (negp b) && xor (negp a) (negp r)) ≡ ltb (a + under b) (b + under a)
unfolding xor
sign_of_difference a b r ha hb hr e (inl x) (inl y) (inl z) = rw (x.0, y.0, z.0) (sym (lt-ltb (a + 2 ^ 32) (b + 2 ^ 32) (omega arith)))
sign_of_difference a b r ha hb hr e (inl x) (inl y) (inr z) = rw (x.0, y.0, z.0) (sym (le-ltb (a + 2 ^ 32) (b + 2 ^ 32) (omega arith)))
sign_of_difference a b r ha hb hr e (inl x) (inr y) (inl z) = rw (x.0, y.0, z.0) (sym (lt-ltb (a + 0) (b + 2 ^ 32) (omega arith)))
sign_of_difference a b r ha hb hr e (inl x) (inr y) (inr z) = rw (x.0, y.0, z.0) (sym (lt-ltb (a + 0) (b + 2 ^ 32) (omega arith)))
sign_of_difference a b r ha hb hr e (inr x) (inl y) (inl z) = rw (x.0, y.0, z.0) (sym (le-ltb (a + 2 ^ 32) (b + 0) (omega arith)))
sign_of_difference a b r ha hb hr e (inr x) (inl y) (inr z) = rw (x.0, y.0, z.0) (sym (le-ltb (a + 2 ^ 32) (b + 0) (omega arith)))
sign_of_difference a b r ha hb hr e (inr x) (inr y) (inl z) = rw (x.0, y.0, z.0) (sym (lt-ltb (a + 0) (b + 0) (omega arith)))
sign_of_difference a b r ha hb hr e (inr x) (inr y) (inr z) = rw (x.0, y.0, z.0) (sym (le-ltb (a + 0) (b + 0) (omega arith)))

signed_less_is : (a b : ℕ) → a < 2 ^ 32 → b < 2 ^ 32 → xor (negp (difference a b false)) (difference_overflow a b false) ≡ lt_z (signed a) (signed b)
signed_less_is a b ha hb =
    let r = difference a b false in
    let hr = difference_lt a b false in
    rw (← difference_by_signs a b false ha hb, less_is a b)
    (sign_of_difference a b r ha hb hr (omega (arith, added_back a b false ha hb)) (sign a ha) (sign b hb) (sign r hr))

-- the two places on the number line are one only where the words are
same_place : (a b : ℕ) → a < 2 ^ 32 → b < 2 ^ 32 → Place a → Place b → a + under b ≡ b + under a → a ≡ b
same_place a b ha hb (high ea xa) (high eb xb) e = omega arith
same_place a b ha hb (high ea xa) (low eb xb) e = omega arith
same_place a b ha hb (low ea xa) (high eb xb) e = omega arith
same_place a b ha hb (low ea xa) (low eb xb) e = omega arith

-- neither below nor equal: above
signed_greater_is : (a b : ℕ) → a < 2 ^ 32 → b < 2 ^ 32 → not (lt_z (signed a) (signed b) || eqb a b) ≡ lt_z (signed b) (signed a)
signed_greater_is a b ha hb = rw (less_is a b, less_is b a) (by_order (lt_or_le left right) (lt_or_le right left))
  where
    left : ℕ
    left = a + under b

    right : ℕ
    right = b + under a

    by_order : (left < right) ⊎ (right ≤ left) → (right < left) ⊎ (left ≤ right) → not (ltb left right || eqb a b) ≡ ltb right left
    by_order (inl h) k = simp (lt-ltb left right h, le-ltb right left (omega arith))
    by_order (inr h) (inl k) = simp (le-ltb left right h, lt-ltb right left k, ne_eqb a b (λ e. omega (arith, ap under e)))
    by_order (inr h) (inr k) = simp (le-ltb left right h, le-ltb right left k, eq-eqb a b (same_place a b ha hb (place a ha) (place b hb) (omega arith)))

not_lt_z : (x y : ℤ) → not (lt_z x y) ≡ le_z y x
not_lt_z (pos a) (pos b) = ap not (sym (not_leb b a)) ∙ not-not (leb b a)
not_lt_z (pos a) (negsuc b) = refl
not_lt_z (negsuc a) (pos b) = refl
not_lt_z (negsuc a) (negsuc b) = ap not (sym (not_leb a b)) ∙ not-not (leb a b)

-- ---- the codes

module _ (p : Psw) (a b : ℕ) (ha : a < 2 ^ 32) (hb : b < 2 ^ 32) where
  pub equal : jump_cond 6 (compared p a b) ≡ eqb a b
  unfolding jump_cond subtracted
  equal = zero_is a b ha hb

  pub not_equal : jump_cond 7 (compared p a b) ≡ not (eqb a b)
  unfolding jump_cond subtracted
  not_equal = ap not (zero_is a b ha hb)

  pub lower_or_same : jump_cond 8 (compared p a b) ≡ leb a b
  unfolding jump_cond subtracted
  lower_or_same = rw (carry_is a b ha hb, zero_is a b ha hb) (lower_or_same_is a b)

  pub higher : jump_cond 9 (compared p a b) ≡ ltb b a
  unfolding jump_cond subtracted
  higher = ap not lower_or_same ∙ not_leb a b

  pub less : jump_cond 10 (compared p a b) ≡ lt_z (signed a) (signed b)
  unfolding jump_cond subtracted
  less = signed_less_is a b ha hb

  pub greater_or_equal : jump_cond 11 (compared p a b) ≡ le_z (signed b) (signed a)
  unfolding jump_cond subtracted
  greater_or_equal = ap not less ∙ not_lt_z (signed a) (signed b)

  pub greater : jump_cond 12 (compared p a b) ≡ lt_z (signed b) (signed a)
  unfolding jump_cond subtracted
  greater = rw (signed_less_is a b ha hb, zero_is a b ha hb) (signed_greater_is a b ha hb)

  pub less_or_equal : jump_cond 13 (compared p a b) ≡ le_z (signed a) (signed b)
  unfolding jump_cond subtracted
  less_or_equal = sym (not-not (jump_cond 13 (compared p a b))) ∙ ap not greater ∙ not_lt_z (signed b) (signed a)
