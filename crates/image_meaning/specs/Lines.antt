-- The lines of a text (the scope, on images): a line ends with LF or CR LF, and the last may lack its end. So a text is cut behind each
-- LF, and what is left behind the last LF, if anything, is a line too. Assumes nothing.
use Rattle.std.specs.Prelude.{ℕ, Bool, true, false, ◌&&◌, cond, List, [], ◌∷◌, eqb}

abbrev pub lf : ℕ
lf = 10

abbrev pub cr : ℕ
cr = 13

-- a byte put before the first line
abbrev pub before_first : ℕ → List (List ℕ) → List (List ℕ)
before_first c [] = (c ∷ []) ∷ []
before_first c (line ∷ lines) = (c ∷ line) ∷ lines

abbrev pub lines_of : List ℕ → List (List ℕ)
lines_of [] = []
lines_of (c ∷ t) = cond (eqb c lf) ((c ∷ []) ∷ lines_of t) (before_first c (lines_of t))

-- what may stand behind a line's last digit: its end, or nothing on the last line. A CR without LF is no end
abbrev pub is_end : List ℕ → Bool
is_end [] = true
is_end (c ∷ []) = eqb c lf
is_end (c ∷ d ∷ []) = eqb c cr && eqb d lf
is_end (c ∷ d ∷ e ∷ t) = false
