-- Which lengths a lent memory may have: a power of two, found as a count of ones that is 1, from 16 to 16,384. Nothing else knows the
-- two ends. Assumes nothing.
use Rattle.std.specs.Prelude.{ℕ, Bool, ◌&&◌, eqb, leb}
use Rattle.std.specs.Int.Count.{ones}

abbrev pub fewest_words : ℕ
fewest_words = 16

abbrev pub most_words : ℕ
most_words = 16384

unfoldable pub legal_length : ℕ → Bool
legal_length m = eqb (ones m) 1 && (leb fewest_words m && leb m most_words)
