-- The relations of two words that table 5.4 (p. 68) names, by jump code 6 to 13: codes 6 to 9 compare the words as they are, 10 to 13 as
-- signed numbers. The table words code 13 as it does code 11; JUMP_COND makes it less or equal (the scope). Assumes nothing.
use Rattle.std.specs.Prelude.{ℕ, Bool, not, cond, eqb, leb, ltb}
use Rattle.std.specs.Int.Signed.{lt_z, le_z}
use Rattle.words.specs.Words.{signed}

unfoldable pub relation : ℕ → ℕ → ℕ → Bool
relation code a b =
    cond (eqb code 6) (eqb a b)
    (cond (eqb code 7) (not (eqb a b))
    (cond (eqb code 8) (leb a b)
    (cond (eqb code 9) (ltb b a)
    (cond (eqb code 10) (lt_z (signed a) (signed b))
    (cond (eqb code 11) (le_z (signed b) (signed a))
    (cond (eqb code 12) (lt_z (signed b) (signed a))
    (le_z (signed a) (signed b))))))))
