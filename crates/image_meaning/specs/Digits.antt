-- Bytes as pairs of hex digits, read and written (the scope, on images: pairs of hex digits of either case; the writer's are upper case).
-- Assumes nothing.
use Rattle.std.specs.Prelude.{ℕ, zero, suc, ◌+◌, ◌-◌, ◌*◌, ◌/◌, ◌%◌, ◌^◌, ◌<◌, Bool, true, ◌&&◌, cond, List, [], ◌∷◌, leb, ltb, get_or, drop}

abbrev between : ℕ → ℕ → ℕ → Bool
between low high c = leb low c && leb c high

-- what a character counts: 0 to 9 are 48 to 57 in ASCII, A to F are 65 to 70, a to f are 97 to 102; what is no digit counts 16
unfoldable pub digit_value : ℕ → ℕ
digit_value c =
    cond (between 48 57 c) (c - 48)
    (cond (between 65 70 c) (c - 55)
    (cond (between 97 102 c) (c - 87)
    16))

-- the byte that two digits' values make, the high one first; 256, which is no byte, where one of them is no digit
unfoldable pub paired : ℕ → ℕ → ℕ
paired high low = cond (ltb high 16 && ltb low 16) (16 * high + low) 256

-- the byte at the front of a text
abbrev pub byte_of : List ℕ → ℕ
byte_of [] = 256
byte_of (h ∷ []) = 256
byte_of (h ∷ l ∷ t) = paired (digit_value h) (digit_value l)

-- the first n bytes of a text. Here and in words_of n is how many are asked for: nothing is cut short by it
abbrev pub bytes_of : ℕ → List ℕ → List ℕ
bytes_of zero t = []
bytes_of (suc n) t = byte_of t ∷ bytes_of n (drop 2 t)

abbrev pub all_bytes : List ℕ → Bool
all_bytes [] = true
all_bytes (b ∷ bs) = ltb b 256 && all_bytes bs

abbrev pub sum_of : List ℕ → ℕ
sum_of [] = 0
sum_of (b ∷ bs) = b + sum_of bs

-- a word is four bytes, the most significant first. Modulo 2 ^ 32 because a "byte" may be 256; of an accepted text none is
unfoldable pub word_from : ℕ → ℕ → ℕ → ℕ → ℕ
word_from a b c d = (16777216 * a + 65536 * b + 256 * c + d) % 4294967296

abbrev pub word_of : List ℕ → ℕ
word_of t = word_from (byte_of t) (byte_of (drop 2 t)) (byte_of (drop 4 t)) (byte_of (drop 6 t))

abbrev pub words_of : ℕ → List ℕ → List ℕ
words_of zero t = []
words_of (suc n) t = word_of t ∷ words_of n (drop 8 t)

-- ---- written

-- 0 to 9, then A to F
unfoldable pub digit : ℕ → ℕ
digit v = cond (ltb v 10) (v + 48) (v + 55)

abbrev pub hex : List ℕ → List ℕ
hex [] = []
hex (b ∷ bs) = digit (b / 16) ∷ digit (b % 16) ∷ hex bs

-- words of 32 bits: what every lent memory holds
abbrev pub Words : List ℕ → Type 0
Words l = (j : ℕ) → get_or l j 0 < 2 ^ 32

abbrev pub word_bytes : ℕ → List ℕ
word_bytes w = w / 16777216 ∷ w / 65536 % 256 ∷ w / 256 % 256 ∷ w % 256 ∷ []
