-- A count of ones that is 1 means a power of two, so the legal lengths are the eleven powers from 16 to 16,384.
use Prim.Native.Nat.{ℕ, zero, suc, ◌*◌, ◌/◌, ◌%◌, ◌^◌, ◌≤◌, ◌<◌}
use native.Mathlib.Nat.{add-zero, one-mul, pow-suc, le_refl, lt_irrefl, lt_of_le_of_lt}
use native.Mathlib.Omega.{arith}
use mathlib.Core.Path.{◌≡◌, sym, ap, ◌∙◌}
use mathlib.Core.Bool.{true, ◌&&◌, and-eq-true_iff}
use lib.Dec.{eqb, leb}
use mathlib.Core.Logic.{◌⊎◌, inl, inr, ◌↔◌}
use lib.Count.{ones, ones_in, ones_step, ones_cat, ones-le}
use lib.Pow.{pow_pos, pow-lt, pow_mono}
use borrow.Author.Tests.{eq-eqb, eqb-true, le-leb, leb-true}
use Rattle.words.specs.Lengths.{legal_length, fewest_words, most_words}
use Rattle.words.proofs.Cases.{lt_or_le}

pub ones_power : (k : ℕ) → ones (2 ^ k) ≡ 1
unfolding ones ones_in
ones_power k = ap ones (sym (add-zero (1 * 2 ^ k) ∙ one-mul (2 ^ k))) ∙ ones_cat k 1 0 (pow_pos k)

-- The digits are taken off lowest first, so both lemmas go by halving: n bounds how often. A number without ones is 0.
no_ones : (n m : ℕ) → m ≤ n → ones m ≡ 0 → m ≡ 0
no_ones zero m h e = omega arith
no_ones (suc n) m h e =
    let step = ones_step m in
    let half = no_ones n (m / 2) (omega arith) (omega arith) in
    omega arith

-- an even number is twice its half, and the half has the same ones; an odd one with a single one has none left, and is 1
by_parity : (m : ℕ) → ones m ≡ 1 → (ones (m / 2) ≡ 1 → (k : ℕ) × (m / 2 ≡ 2 ^ k)) → (m % 2 < 1) ⊎ (1 ≤ m % 2) → (k : ℕ) × (m ≡ 2 ^ k)
by_parity m e half (inl even) =
    let step = ones_step m in
    let r = half (omega arith) in
    (suc r.0, omega (arith, pow-suc 2 r.0, r.1))
by_parity m e half (inr odd) =
    let step = ones_step m in
    let none = no_ones m (m / 2) (omega arith) (omega arith) in
    (0, omega arith)

single_one : (n m : ℕ) → m ≤ n → ones m ≡ 1 → (k : ℕ) × (m ≡ 2 ^ k)
single_one zero m h e = by_parity m e (λ f. absurd (never f)) (lt_or_le (m % 2) 1)
  where
    never : ones (m / 2) ≡ 1 → ⊥
    never f = omega (arith, ones-le 0 (m / 2) (omega arith))
single_one (suc n) m h e = by_parity m e (single_one n (m / 2) (omega arith)) (lt_or_le (m % 2) 1)

pub one_digit : (m : ℕ) → ones m ≡ 1 → (k : ℕ) × (m ≡ 2 ^ k)
one_digit m e = single_one m m (le_refl m) e

-- the exponents of the two ends bound the exponent
exponent : (m k : ℕ) → m ≡ 2 ^ k → 16 ≤ m → m ≤ 16384 → (4 ≤ k) × (k ≤ 14)
exponent m k e h j = (at_least (lt_or_le k 4), at_most (lt_or_le 14 k))
  where
    at_least : (k < 4) ⊎ (4 ≤ k) → 4 ≤ k
    at_least (inl x) = absurd (lt_irrefl 16 (lt_of_le_of_lt h (rw e (pow-lt x))))
    at_least (inr x) = x

    at_most : (14 < k) ⊎ (k ≤ 14) → k ≤ 14
    at_most (inl x) = absurd (lt_irrefl m (lt_of_le_of_lt j (rw e (pow-lt x))))
    at_most (inr x) = x

-- the eleven lengths
pub eleven_lengths : (m : ℕ) → (legal_length m ≡ true) ↔ ((k : ℕ) × ((4 ≤ k) × (k ≤ 14)) × (m ≡ 2 ^ k))
unfolding legal_length
eleven_lengths m = (power, legal)
  where
    power : legal_length m ≡ true → (k : ℕ) × ((4 ≤ k) × (k ≤ 14)) × (m ≡ 2 ^ k)
    power e =
        let single = (and-eq-true_iff (eqb (ones m) 1) (leb fewest_words m && leb m most_words)).0 e in
        let ends = (and-eq-true_iff (leb fewest_words m) (leb m most_words)).0 single.1 in
        let found = one_digit m (eqb-true (ones m) 1 single.0) in
        (found.0, exponent m found.0 found.1 (leb-true 16 m ends.0) (leb-true m 16384 ends.1), found.1)

    legal : ((k : ℕ) × ((4 ≤ k) × (k ≤ 14)) × (m ≡ 2 ^ k)) → legal_length m ≡ true
    legal r =
        let k = r.0 in
        rw r.2
        (simp (eq-eqb (ones (2 ^ k)) 1 (ones_power k), le-leb 16 (2 ^ k) (pow_mono r.1.0), le-leb (2 ^ k) 16384 (pow_mono r.1.1)))
