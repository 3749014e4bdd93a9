-- Sets of addresses: what is in a union, in a set of one, among the opcodes' words, beside fetch; the lowest member; and a union with
-- something new has more members.
use Prim.Native.Nat.{ℕ, zero, suc, ◌+◌, ◌-◌, ◌*◌, ◌/◌, ◌%◌, ◌^◌, ◌<◌, ◌≤◌}
use native.Mathlib.Nat.{mod-lt, pow-suc}
use native.Mathlib.Omega.{arith}
use mathlib.Core.Path.{◌≡◌, refl, sym, ap, ap₂, ◌∙◌}
use mathlib.Core.Bool.{Bool, true, false, cond, ◌||◌}
use mathlib.Core.Logic.{◌⊎◌, inl, inr, ⊎_elim}
use lib.Dec.{eqb}
use lib.Bits.{bit_or, or_shr, or_mod, or_lt}
use lib.Count.{ones, ones_step, count_trailing_zeros}
use lib.Pow.{pow_pos, pow-lt}
use borrow.Author.Tests.{eqb-true, eqb-false}
use Rattle.std.specs.Prelude.{Some, None}
use Rattle.std.specs.Int.{w64, bit_at}
use Rattle.std.proofs.lemmas.Nat.{leading_length}
use Rattle.std.proofs.lemmas.Nat.Bits.{bit_at-zero, bit_at-suc, bit_at_above, bit_at_mask_inside, bit_at_mask_above, bit_at_mask_below, bit_at-trailing_zeros}
use Rattle.words.specs.Words.{bit}
use Rattle.words.proofs.BitByBit.{digit, bit_of_or, bit_of_power}
use Rattle.words.proofs.Cases.{lt_or_le}
use Rattle.check_meaning.specs.declared.AddressSet.{AddressSet}
use Rattle.check_meaning.specs.Survey.{of_bits, nowhere, has, is_empty, alone, union, without_fetch, lowest, length_of, opcode_words}

-- ---- by digits
bit_is : (n place : ℕ) {d : ℕ} → bit_at n place ≡ d → bit n place ≡ eqb d 1
unfolding bit
bit_is n place e = ap (λ (d : ℕ). eqb d 1) e

set_bit : (n place : ℕ) → bit n place ≡ true → bit_at n place ≡ 1
unfolding bit
set_bit n place t = eqb-true (bit_at n place) 1 t

not_both : (n place : ℕ) → bit_at n place ≡ 0 → bit n place ≡ true → ⊥
not_both n place e t = absurd (omega (arith, e, set_bit n place t))

-- no address of 64 or more is in a set of 64 bits
pub beyond : (bits place : ℕ) → bits < 2 ^ 64 → 64 ≤ place → bit bits place ≡ false
beyond bits place h l = bit_is bits place (bit_at_above bits 64 place h l)

-- ---- where a set ends
pub has_its_length : (bits : ℕ) → bits < 2 ^ 64 → bits < 2 ^ length_of bits
has_its_length bits h =
    let top = leading_length 64 bits h in let same : top.0 ≡ length_of bits = omega (arith, top.1) in rw same at top.2

-- no address from the end on is in a set
pub none_beyond : (x : AddressSet) (a : ℕ) → x.bits < 2 ^ a → has x a ≡ false
none_beyond x a h = bit_is x.bits a (bit_at_above x.bits a a h (omega arith))

-- ---- what is in a set
pub has_none : (a : ℕ) → has nowhere a ≡ false
has_none a = bit_is 0 a (bit_at-zero a)

pub has_union : (x y : AddressSet) (a : ℕ) → has (union x y) a ≡ (has x a || has y a)
unfolding union
has_union x y a = bit_of_or x.bits y.bits a

pub has_alone : (n a : ℕ) → n < 2 ^ 6 → has (alone n) a ≡ eqb a n
unfolding alone
has_alone n a h = ap (λ (k : ℕ). bit (2 ^ k) a) (omega arith) ∙ bit_of_power n a

pub has_opcode_words : (a : ℕ) → 4 ≤ a → a < 36 → has opcode_words a ≡ true
has_opcode_words a l h = bit_is (2 ^ 36 - 2 ^ 4) a (bit_at_mask_inside 4 36 a l h)

pub in_opcode_words : (a : ℕ) → has opcode_words a ≡ true → (4 ≤ a) × (a < 36)
in_opcode_words a t = (
  ⊎_elim (λ h. absurd (not_both _ a (bit_at_mask_below 4 36 a h) t)) (λ h. h) (lt_or_le a 4),
  ⊎_elim (λ h. h) (λ h. absurd (not_both _ a (bit_at_mask_above 4 36 a h) t)) (lt_or_le a 36),
)

-- ---- without fetch
pub fetch_left_out : (x : AddressSet) → has (without_fetch x) 0 ≡ false
unfolding without_fetch
fetch_left_out x = bit_is (x.bits / 2 * 2) 0 even
  where
    even : bit_at (x.bits / 2 * 2) 0 ≡ 0
    even = omega arith

pub others_kept : (x : AddressSet) (a : ℕ) → has (without_fetch x) (suc a) ≡ has x (suc a)
unfolding without_fetch bit
others_kept x a = ap (λ (d : ℕ). eqb d 1) (bit_at-suc (x.bits / 2 * 2) a ∙ ap (λ (n : ℕ). bit_at n a) half ∙ sym (bit_at-suc x.bits a))
  where
    half : x.bits / 2 * 2 / 2 ≡ x.bits / 2
    half = omega arith

-- ---- the lowest member
pub lowest_of_some : (x : AddressSet) {a : ℕ} → x.bits < 2 ^ 64 → lowest x ≡ Some a → (has x a ≡ true) × ((c : ℕ) → has x c ≡ true → a ≤ c)
lowest_of_some x h e = by_test (is_empty x) (eqb-false x.bits 0) e
  where
    by_test : (b : Bool) {a : ℕ} → (b ≡ false → x.bits ≡ 0 → ⊥) → cond b None (Some (count_trailing_zeros 64 x.bits)) ≡ Some a
        → (has x a ≡ true) × ((c : ℕ) → has x c ≡ true → a ≤ c)
    by_test true f e = absurd cc
    by_test false {a} f e =
        let some : 0 < x.bits = ⊎_elim (λ k. absurd (f refl (omega arith))) (λ k. k) (lt_or_le x.bits 1) in
        let place : count_trailing_zeros 64 x.bits ≡ a = cc in
        let found = bit_at-trailing_zeros w64 x.bits some h in (
          bit_is x.bits a (ap (bit_at x.bits) (sym place) ∙ found.1),
          λ c t. ⊎_elim (λ k. absurd (not_both x.bits c (found.2 c (omega (arith, k, place))) t)) (λ k. k) (lt_or_le c a),
        )

pub lowest_of_none : (x : AddressSet) → lowest x ≡ None → x ≡ nowhere
lowest_of_none x e = by_test (is_empty x) (eqb-true x.bits 0) e
  where
    by_test : (b : Bool) → (b ≡ true → x.bits ≡ 0) → cond b None (Some (count_trailing_zeros 64 x.bits)) ≡ None → x ≡ nowhere
    by_test true f e = ap of_bits (f refl)
    by_test false f e = absurd cc

-- ---- sets of 64 bits
pub union_lt : (x y : AddressSet) → x.bits < 2 ^ 64 → y.bits < 2 ^ 64 → (union x y).bits < 2 ^ 64
unfolding union
union_lt x y h k = or_lt 64 x.bits y.bits h k

pub alone_lt : (n : ℕ) → (alone n).bits < 2 ^ 64
unfolding alone
alone_lt n = pow-lt {i = n % 2 ^ 6} {j = 64} (mod-lt n (pow_pos 6))

pub without_fetch_lt : (x : AddressSet) → x.bits < 2 ^ 64 → (without_fetch x).bits < 2 ^ 64
unfolding without_fetch
without_fetch_lt x h = omega arith

-- ---- a union with something new has more members
lowest_of_or : (x y : ℕ) → (bit_or x y % 2 ≡ x % 2) ⊎ ((x % 2 ≡ 0) × (bit_or x y % 2 ≡ 1))
lowest_of_or x y = by_digits (digit x) (digit y)
  where
    by_digits : (x % 2 ≡ 0) ⊎ (x % 2 ≡ 1) → (y % 2 ≡ 0) ⊎ (y % 2 ≡ 1) → (bit_or x y % 2 ≡ x % 2) ⊎ ((x % 2 ≡ 0) × (bit_or x y % 2 ≡ 1))
    by_digits (inl e) (inl f) = inl (or_mod x y 1 ∙ rw (e, f))
    by_digits (inl e) (inr f) = inr (e, or_mod x y 1 ∙ rw (e, f))
    by_digits (inr e) (inl f) = inl (or_mod x y 1 ∙ rw (e, f))
    by_digits (inr e) (inr f) = inl (or_mod x y 1 ∙ rw (e, f))

pub nothing_or_more : (k x y : ℕ) → x < 2 ^ k → y < 2 ^ k → (bit_or x y ≡ x) ⊎ (ones x < ones (bit_or x y))
nothing_or_more zero x y h l =
    let x0 : x ≡ 0 = omega arith in
    let y0 : y ≡ 0 = omega arith in
    inl (ap₂ bit_or x0 y0 ∙ sym x0)
nothing_or_more (suc k) x y h l =
    by_halves (bit_or x y) (or_shr x y 1) (ones_step (bit_or x y)) (lowest_of_or x y) (nothing_or_more k (x / 2) (y / 2) (below_half h) (below_half l))
  where
    below_half : {n : ℕ} → n < 2 ^ suc k → n / 2 < 2 ^ k
    below_half h = let e = pow-suc 2 k in omega (arith, h, e)

    by_halves : (u : ℕ) → u / 2 ≡ bit_or (x / 2) (y / 2) → ones u ≡ u % 2 + ones (u / 2) → (u % 2 ≡ x % 2) ⊎ ((x % 2 ≡ 0) × (u % 2 ≡ 1))
        → (bit_or (x / 2) (y / 2) ≡ x / 2) ⊎ (ones (x / 2) < ones (bit_or (x / 2) (y / 2))) → (u ≡ x) ⊎ (ones x < ones u)
    by_halves u half count (inl same) (inl old) = inl (omega (arith, half, same, old))
    by_halves u half count (inr new) (inl old) =
        let kept = ap ones (half ∙ old) in let n = ones_step x in inr (omega (arith, kept, n, count, new.0, new.1))
    by_halves u half count (inl same) (inr more) =
        let kept = ap ones half in let n = ones_step x in inr (omega (arith, kept, n, count, same, more))
    by_halves u half count (inr new) (inr more) =
        let kept = ap ones half in let n = ones_step x in inr (omega (arith, kept, n, count, new.0, new.1, more))

pub same_or_more : (x y : AddressSet) → x.bits < 2 ^ 64 → y.bits < 2 ^ 64 → (union x y ≡ x) ⊎ (ones x.bits < ones (union x y).bits)
unfolding union
same_or_more x y h l = ⊎_elim (λ e. inl (ap of_bits e)) inr (nothing_or_more 64 x.bits y.bits h l)
