-- Lists of words: every element is below 2 ^ 32, and what stands past the end counts as 0. A store of a word keeps that.
use Prim.Native.Nat.{ℕ, zero, suc, ◌^◌, ◌<◌}
use mathlib.Core.List.{List, [], ◌∷◌}
use lib.ListN.{get_or, set}

abbrev pub Words : List ℕ → Type 0
Words l = (place : ℕ) → get_or l place 0 < 2 ^ 32

pub set_words : (l : List ℕ) (i word : ℕ) → word < 2 ^ 32 → Words l → Words (set l i word)
set_words [] i word h all place = all place
set_words (x ∷ xs) zero word h all zero = h
set_words (x ∷ xs) zero word h all (suc place) = all (suc place)
set_words (x ∷ xs) (suc i) word h all zero = all zero
set_words (x ∷ xs) (suc i) word h all (suc place) = set_words xs i word h (λ k. all (suc k)) place
