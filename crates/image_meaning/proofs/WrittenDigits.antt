-- What is written as digits reads as the bytes that were written.
use Prim.Native.Nat.{ℕ, suc, ◌+◌, ◌*◌, ◌/◌, ◌%◌, ◌^◌, ◌<◌, ◌≤◌}
use native.Mathlib.Omega.{arith}
use mathlib.Core.Path.{◌≡◌, refl, ap, ◌∙◌}
use mathlib.Core.Bool.{true}
use mathlib.Core.List.{List, [], ◌∷◌, ◌++◌}
use mathlib.Core.Logic.{◌⊎◌, inl, inr}
use lib.Dec.{ltb}
use lib.ListN.{length, drop}
use borrow.Author.Tests.{lt-ltb, le-ltb, le-leb, lt-leb, ltb-true}
use Rattle.words.proofs.Cases.{lt_or_le, both_of}
use Rattle.image_meaning.specs.Digits.{digit_value, paired, bytes_of, all_bytes, word_from, word_of, digit, hex, word_bytes}

-- ---- a digit

pub digit_read : (v : ℕ) → v < 16 → digit_value (digit v) ≡ v
unfolding digit_value digit
digit_read v h = by_kind (lt_or_le v 10)
  where
    by_kind : (v < 10) ⊎ (10 ≤ v) → digit_value (digit v) ≡ v
    by_kind (inl t) = rw (lt-ltb v 10 t, le-leb 48 (v + 48) (omega arith), le-leb (v + 48) 57 (omega arith)) (omega arith)
    by_kind (inr t) =
        rw (
          le-ltb v 10 t,
          lt-leb (v + 55) 57 (omega arith),
          le-leb 48 (v + 55) (omega arith),
          le-leb 65 (v + 55) (omega arith),
          le-leb
              (v + 55) 70 (omega arith),
        )
        (omega arith)

-- no digit is a byte below 48, so none ends a line
pub digit_at_least : (v : ℕ) → 48 ≤ digit v
unfolding digit
digit_at_least v = by_kind (lt_or_le v 10)
  where
    by_kind : (v < 10) ⊎ (10 ≤ v) → 48 ≤ digit v
    by_kind (inl t) = rw (lt-ltb v 10 t) (omega arith)
    by_kind (inr t) = rw (le-ltb v 10 t) (omega arith)

-- ---- a byte, and bytes

pub byte_read : (b : ℕ) → b < 256 → paired (digit_value (digit (b / 16))) (digit_value (digit (b % 16))) ≡ b
unfolding paired
byte_read b h =
    rw (digit_read (b / 16) high, digit_read (b % 16) low, lt-ltb (b / 16) 16 high, lt-ltb (b % 16) 16 low) (omega arith)
  where
    high : b / 16 < 16
    high = omega arith

    low : b % 16 < 16
    low = omega arith

pub bytes_read : (bs rest : List ℕ) → all_bytes bs ≡ true → bytes_of (length bs) (hex bs ++ rest) ≡ bs
bytes_read [] rest h = refl
bytes_read (b ∷ bs) rest h =
    let both = both_of (ltb b 256) (all_bytes bs) h in
    rw (byte_read b (ltb-true b 256 both.0), bytes_read bs rest both.1)

pub behind_digits : (bs rest : List ℕ) → drop (2 * length bs) (hex bs ++ rest) ≡ rest
behind_digits [] rest = refl
behind_digits (b ∷ bs) rest =
    ap (λ (n : ℕ). drop n (hex (b ∷ bs) ++ rest)) (two_more (length bs)) ∙ behind_digits bs rest
  where
    two_more : (n : ℕ) → 2 * suc n ≡ suc (suc (2 * n))
    two_more n = omega arith

pub digits_length : (bs : List ℕ) → length (hex bs) ≡ 2 * length bs
digits_length [] = refl
digits_length (b ∷ bs) = omega (arith, digits_length bs)

pub all_bytes_joined : (front bs : List ℕ) → all_bytes front ≡ true → all_bytes bs ≡ true → all_bytes (front ++ bs) ≡ true
all_bytes_joined [] bs p q = q
all_bytes_joined (a ∷ front) bs p q =
    let both = both_of (ltb a 256) (all_bytes front) p in
    rw both.0 (all_bytes_joined front bs both.1 q)

-- ---- a word

pub word_bytes_are : (w : ℕ) → w < 2 ^ 32 → all_bytes (word_bytes w) ≡ true
word_bytes_are w h =
    rw (
      lt-ltb (w / 16777216) 256 (omega arith),
      lt-ltb (w / 65536 % 256) 256 (omega arith),
      lt-ltb (w / 256 % 256) 256 (omega arith),
      lt-ltb (w % 256) 256 (omega arith),
    )

-- one byte is taken off at a time
put_together : (w q r a b c d : ℕ) → w ≡ 256 * q + d → q ≡ 256 * r + c → r ≡ 256 * a + b → w < 2 ^ 32 → word_from a b c d ≡ w
unfolding word_from
put_together w q r a b c d e f g h = omega arith

word_joined : (w : ℕ) → w < 2 ^ 32 → word_from (w / 16777216) (w / 65536 % 256) (w / 256 % 256) (w % 256) ≡ w
word_joined w h =
    put_together w (w / 256) (w / 65536) (w / 16777216) (w / 65536 % 256) (w / 256 % 256) (w % 256)
    (omega arith)
    (omega arith)
    (omega arith)
    h

pub word_read : (w : ℕ) → w < 2 ^ 32 → word_of (hex (word_bytes w)) ≡ w
word_read w h =
    rw (
      byte_read (w / 16777216) (omega arith),
      byte_read (w / 65536 % 256) (omega arith),
      byte_read (w / 256 % 256) (omega arith),
      byte_read (w % 256) (omega arith),
    )
    (word_joined w h)
