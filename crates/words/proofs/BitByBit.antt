-- And, or, exclusive or and the complement, bit by bit, and the bits of a power of two.
use Prim.Native.Nat.{ℕ, zero, suc, ◌+◌, ◌-◌, ◌/◌, ◌%◌, ◌^◌, ◌<◌, ◌≤◌}
use native.Mathlib.Nat.{mod-lt, pow-suc}
use native.Mathlib.Omega.{arith}
use mathlib.Core.Path.{◌≡◌, refl, sym, ap, ap₂, ◌∙◌}
use mathlib.Core.Bool.{Bool, true, false, not, xor, ◌&&◌, ◌||◌}
use mathlib.Core.Logic.{◌⊎◌, inl, inr}
use lib.Bits.{bit_and, bit_or, bit_xor, and_shr, and_mod, and_mask, or_shr, or_mod, xor_shr, xor_mod, xor_add_and}
use lib.Dec.{eqb}
use lib.Pow.{pow_pos, pow-lt, pow-add, shl-shr, shr_lt, high, ones_lt, ones_split}
use borrow.Author.Tests.{eq-eqb, ne_eqb}
use Rattle.words.specs.Words.{bit, bnot}
use Rattle.words.proofs.Cases.{lt_or_le}

-- a digit is 0 or 1
pub digit : (n : ℕ) → (n % 2 ≡ 0) ⊎ (n % 2 ≡ 1)
digit n = by_size (n % 2) (mod-lt n (pow_pos 1))
  where
    by_size : (d : ℕ) → d < 2 → (d ≡ 0) ⊎ (d ≡ 1)
    by_size zero h = inl refl
    by_size (suc zero) h = inr refl
    by_size (suc (suc d)) h = absurd (omega arith)

-- what holds of the four pairs of digits holds of the digits of all numbers
record Table (op : ℕ → ℕ → ℕ) (test : Bool → Bool → Bool) : Type 0 where
  both_0 : eqb (op 0 0) 1 ≡ test false false
  second_1 : eqb (op 0 1) 1 ≡ test false true
  first_1 : eqb (op 1 0) 1 ≡ test true false
  both_1 : eqb (op 1 1) 1 ≡ test true true

digits : (op : ℕ → ℕ → ℕ) (test : Bool → Bool → Bool) → Table op test
    → (x y : ℕ) → eqb (op (x % 2) (y % 2)) 1 ≡ test (eqb (x % 2) 1) (eqb (y % 2) 1)
digits op test table x y = by_digits (digit x) (digit y)
  where
    at : {d e : ℕ} → x % 2 ≡ d → y % 2 ≡ e → eqb (op d e) 1 ≡ test (eqb d 1) (eqb e 1)
        → eqb (op (x % 2) (y % 2)) 1 ≡ test (eqb (x % 2) 1) (eqb (y % 2) 1)
    at f g fact = ap₂ (λ (d e : ℕ). eqb (op d e) 1) f g ∙ fact ∙ sym (ap₂ (λ (d e : ℕ). test (eqb d 1) (eqb e 1)) f g)

    by_digits : (x % 2 ≡ 0) ⊎ (x % 2 ≡ 1) → (y % 2 ≡ 0) ⊎ (y % 2 ≡ 1) → eqb (op (x % 2) (y % 2)) 1 ≡ test (eqb (x % 2) 1) (eqb (y % 2) 1)
    by_digits (inl f) (inl g) = at f g table.both_0
    by_digits (inl f) (inr g) = at f g table.second_1
    by_digits (inr f) (inl g) = at f g table.first_1
    by_digits (inr f) (inr g) = at f g table.both_1

pub or_digits : (x y : ℕ) → eqb (bit_or (x % 2) (y % 2)) 1 ≡ (eqb (x % 2) 1 || eqb (y % 2) 1)
or_digits = digits bit_or ◌||◌ (record { both_0 = refl; second_1 = refl; first_1 = refl; both_1 = refl })

-- ---- the bit at a place

pub bit_of_and : (a b place : ℕ) → bit (bit_and a b) place ≡ (bit a place && bit b place)
unfolding bit
bit_of_and a b place =
    rw (and_shr a b place, and_mod (a / 2 ^ place) (b / 2 ^ place) 1)
    (digits bit_and ◌&&◌ (record { both_0 = refl; second_1 = refl; first_1 = refl; both_1 = refl }) (a / 2 ^ place) (b / 2 ^ place))

pub bit_of_or : (a b place : ℕ) → bit (bit_or a b) place ≡ (bit a place || bit b place)
unfolding bit
bit_of_or a b place = rw (or_shr a b place, or_mod (a / 2 ^ place) (b / 2 ^ place) 1) (or_digits (a / 2 ^ place) (b / 2 ^ place))

pub bit_of_xor : (a b place : ℕ) → bit (bit_xor a b) place ≡ xor (bit a place) (bit b place)
unfolding bit xor
bit_of_xor a b place =
    rw (xor_shr a b place, xor_mod (a / 2 ^ place) (b / 2 ^ place) 1)
    (digits bit_xor xor (record { both_0 = refl; second_1 = refl; first_1 = refl; both_1 = refl }) (a / 2 ^ place) (b / 2 ^ place))

-- a word of ones has every bit set, so that exclusive or with it turns every bit
bit_of_ones : (place : ℕ) → place < 32 → bit (2 ^ 32 - 1) place ≡ true
unfolding bit
bit_of_ones place h =
    let d = 31 - place in
    let e : 32 ≡ suc d + place = omega arith in
    let whole = ap (λ (k : ℕ). (2 ^ k - 1) / 2 ^ place % 2) e ∙ ap (λ (n : ℕ). n / 2 ^ place % 2) (ones_split (suc d) place)
    ∙ ap (λ (n : ℕ). n % 2) (high (2 ^ suc d - 1) place (ones_lt place)) in
    let odd : (2 ^ suc d - 1) % 2 ≡ 1 = omega (arith, pow-suc 2 d, pow_pos d) in
    ap (λ (n : ℕ). eqb n 1) (whole ∙ odd)

turned_bits : (w : ℕ) → w < 2 ^ 32 → bnot w ≡ bit_xor w (2 ^ 32 - 1)
unfolding bnot
turned_bits w h = omega (arith, xor_add_and w (2 ^ 32 - 1), and_mask w 32)

pub bit_of_bnot : (w place : ℕ) → w < 2 ^ 32 → place < 32 → bit (bnot w) place ≡ not (bit w place)
unfolding xor
bit_of_bnot w place h k = rw (turned_bits w h, bit_of_xor w (2 ^ 32 - 1) place, bit_of_ones place k) (opposite (bit w place))
  where
    opposite : (t : Bool) → xor t true ≡ not t
    opposite true = refl
    opposite false = refl

-- a power of two has one bit
pub bit_of_power : (x place : ℕ) → bit (2 ^ x) place ≡ eqb place x
unfolding bit
bit_of_power x place = by_order (lt_or_le place x) (lt_or_le x place)
  where
    quotient : (d : ℕ) → 2 ^ (d + place) / 2 ^ place ≡ 2 ^ d
    quotient d = rw (pow-add 2 d place) (shl-shr (2 ^ d) place)

    even : (d : ℕ) → 2 ^ suc d % 2 ≡ 0
    even d = omega (arith, pow-suc 2 d)

    by_order : (place < x) ⊎ (x ≤ place) → (x < place) ⊎ (place ≤ x) → eqb (2 ^ x / 2 ^ place % 2) 1 ≡ eqb place x
    by_order (inl h) k =
        let d = x - suc place in
        let e : x ≡ suc d + place = omega arith in
        let digit_is : 2 ^ x / 2 ^ place % 2 ≡ 0 = ap (λ (n : ℕ). 2 ^ n / 2 ^ place % 2) e ∙ ap (λ (n : ℕ). n % 2) (quotient (suc d)) ∙ even d in
        simp (digit_is, ne_eqb place x (λ f. omega arith))
    by_order (inr h) (inl k) =
        let none : 2 ^ x / 2 ^ place < 1 = shr_lt 0 place (pow-lt {i = x} {j = 0 + place} (omega arith)) in
        simp (ne_eqb (2 ^ x / 2 ^ place % 2) 1 (λ f. omega arith), ne_eqb place x (λ f. omega arith))
    by_order (inr h) (inr k) =
        let e : x ≡ 0 + place = omega arith in
        let digit_is : 2 ^ x / 2 ^ place % 2 ≡ 1 = ap (λ (n : ℕ). 2 ^ n / 2 ^ place % 2) e ∙ ap (λ (n : ℕ). n % 2) (quotient 0) in
        simp (digit_is, eq-eqb place x (omega arith))
