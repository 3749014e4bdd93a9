-- The first line ends behind the first LF, or with the text, told by the library's search for it.
use Prim.Native.Nat.{ℕ, suc, ◌+◌}
use Prim.Native.Nat.compare
use native.Mathlib.Numerals.{one-add}
use native.Mathlib.Omega.{arith}
use mathlib.Core.Path.{◌≡◌, refl}
use mathlib.Core.Bool.{Bool, true, false, not, cond}
use mathlib.Core.List.{List, [], ◌∷◌}
use lib.Dec.{eqb, ltb}
use lib.ListN.{length}
use borrow.Author.Tests.{lt-ltb}
use Rattle.std.specs.Prelude.{Some, None}
use Rattle.std.specs.List.{position, position_or_len}
use Rattle.image_meaning.specs.Lines.{lf}
use Rattle.image_records.specs.Totals.{line_length}

abbrev is_lf : ℕ → Bool
is_lf c = eqb c lf

-- the place that the search finds, or the length
abbrev place : List ℕ → ℕ
place t = position_or_len is_lf t

ends : (t : List ℕ) → cond (ltb (place t) (length t)) (place t + 1) (length t) ≡ line_length t
ends [] = refl
ends (c ∷ t) = by_end (eqb c lf) (ends t)
  where
    by_end : (b : Bool) → cond (ltb (place t) (length t)) (place t + 1) (length t) ≡ line_length t →
        cond (ltb (cond (not b) (1 + place t) 0) (suc (length t))) (cond (not b) (1 + place t) 0 + 1) (suc (length t))
        ≡ cond b 1 (suc (line_length t))
    by_end true e = rw (lt-ltb 0 (suc (length t)) (omega arith))
    by_end false e = rw (one-add, compare.suc-suc) (one_more (ltb (place t) (length t)) e)
      where
        one_more : (l : Bool) → cond l (place t + 1) (length t) ≡ line_length t →
            cond l (suc (place t) + 1) (suc (length t)) ≡ suc (line_length t)
        one_more true e = omega arith
        one_more false e = omega arith

module _ (t : List ℕ) where
  pub behind_the_lf : {at : ℕ} → position is_lf t ≡ Some at → at + 1 ≡ line_length t
  behind_the_lf {at} e = by_place (ltb (place t) (length t)) (ends t) e
    where
      by_place : (b : Bool) → cond b (place t + 1) (length t) ≡ line_length t → cond b (Some (place t)) None ≡ Some at →
          at + 1 ≡ line_length t
      by_place true e f = cc
      by_place false e f = absurd cc

  pub at_the_end : position is_lf t ≡ None → length t ≡ line_length t
  at_the_end e = by_place (ltb (place t) (length t)) (ends t) e
    where
      by_place : (b : Bool) → cond b (place t + 1) (length t) ≡ line_length t → cond b (Some (place t)) None ≡ None →
          length t ≡ line_length t
      by_place true e f = absurd cc
      by_place false e f = e
