-- The first place of a list whose element is bad, counted from 0; the list's length where none is. Assumes nothing.
use Rattle.std.specs.Prelude.{ℕ, suc, Bool, cond, List, [], ◌∷◌, ltb}

unfoldable pub first_place : (ℕ → Bool) → List ℕ → ℕ
first_place bad [] = 0
first_place bad (x ∷ xs) = cond (bad x) 0 (suc (first_place bad xs))

-- bytes above the largest that is allowed
abbrev pub above : ℕ → ℕ → Bool
above most x = ltb most x
