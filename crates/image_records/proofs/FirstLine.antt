-- The first line of a text is its first `line_length` bytes, and the other lines are those of the rest.
use Prim.Native.Nat.{ℕ, suc, ◌<◌, ◌≤◌}
use native.Mathlib.Omega.{arith}
use mathlib.Core.Path.{◌≡◌, refl, ap}
use mathlib.Core.Bool.{Bool, true, false, cond}
use mathlib.Core.List.{List, [], ◌∷◌}
use lib.Dec.{eqb}
use lib.ListN.{length, take, drop}
use Rattle.image_meaning.specs.Lines.{lf, lines_of, before_first}
use Rattle.image_records.specs.Totals.{line_length}

pub line_and_rest : (t : List ℕ) → 0 < length t → lines_of t ≡ take (line_length t) t ∷ lines_of (drop (line_length t) t)
line_and_rest [] h = absurd (omega arith)
line_and_rest (c ∷ []) h = by_end (eqb c lf)
  where
    by_end : (b : Bool) → cond b ((c ∷ []) ∷ []) ((c ∷ []) ∷ []) ≡ take (cond b 1 1) (c ∷ []) ∷ lines_of (drop (cond b 1 1) (c ∷ []))
    by_end true = refl
    by_end false = refl
line_and_rest (c ∷ d ∷ t) h = by_end (eqb c lf) (line_and_rest (d ∷ t) (omega arith))
  where
    by_end : (b : Bool) → lines_of (d ∷ t) ≡ take (line_length (d ∷ t)) (d ∷ t) ∷ lines_of (drop (line_length (d ∷ t)) (d ∷ t)) →
        cond b ((c ∷ []) ∷ lines_of (d ∷ t)) (before_first c (lines_of (d ∷ t)))
        ≡ take (cond b 1 (suc (line_length (d ∷ t)))) (c ∷ d ∷ t) ∷ lines_of (drop (cond b 1 (suc (line_length (d ∷ t)))) (c ∷ d ∷ t))
    by_end true e = refl
    by_end false e = ap (before_first c) e

pub inside : (t : List ℕ) → line_length t ≤ length t
inside [] = omega arith
inside (c ∷ t) = by_end (eqb c lf) (inside t)
  where
    by_end : (b : Bool) → line_length t ≤ length t → cond b 1 (suc (line_length t)) ≤ suc (length t)
    by_end true e = omega arith
    by_end false e = omega arith
