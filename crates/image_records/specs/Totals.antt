-- How a line's sum and a line's length are found, in the order in which the code meets the bytes. Assumes nothing.
use Rattle.std.specs.Prelude.{ℕ, suc, ◌%◌, cond, List, [], ◌∷◌, eqb, Option, Some, None}
use Rattle.image_meaning.specs.Digits.{all_bytes, sum_of}
use Rattle.image_meaning.specs.Lines.{lf}

-- the sum of bytes modulo 256, where all are bytes
unfoldable pub total_of : List ℕ → Option ℕ
total_of bytes = cond (all_bytes bytes) (Some (sum_of bytes % 256)) None

-- the bytes of the first line, its end among them
abbrev pub line_length : List ℕ → ℕ
line_length [] = 0
line_length (c ∷ t) = cond (eqb c lf) 1 (suc (line_length t))
