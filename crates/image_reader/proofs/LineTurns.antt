-- One turn of the two loops over the lines, and of the loop over a record's words.
use Prim.Native.Nat.{ℕ, suc, ◌+◌, ◌-◌, ◌*◌, ◌<◌, ◌≤◌}
use native.Mathlib.Numerals.{add-one}
use native.Mathlib.Omega.{arith}
use mathlib.Core.Path.{◌≡◌, refl, sym, ap, ◌∙◌}
use mathlib.Core.Bool.{Bool, true, false, cond}
use mathlib.Core.List.{List, [], ◌∷◌}
use lib.Dec.{eqb}
use lib.ListN.{length, drop, set}
use lib.Seq.{sets, drop-drop}
use Rattle.std.specs.Prelude.{Err}
use Rattle.answers.specs.declared.Refusal.{Refusal}
use Rattle.image_meaning.specs.Digits.{word_of, words_of}
use Rattle.image_meaning.specs.Lines.{lf, lines_of, before_first}
use Rattle.image_meaning.specs.Reading.{ReadSoFar, next, finish, read_lines}
use Rattle.image_meaning.proofs.ExactlyWhen.{refused_stays}

-- ---- lines

-- no text has more lines than bytes
pub no_more_lines : (t : List ℕ) → length (lines_of t) ≤ length t
no_more_lines [] = omega arith
no_more_lines (c ∷ t) = by_end (eqb c lf) (lines_of t) (no_more_lines t)
  where
    by_end : (b : Bool) (lines : List (List ℕ)) → length lines ≤ length t →
        length (cond b ((c ∷ []) ∷ lines) (before_first c lines)) ≤ suc (length t)
    by_end true lines h = omega arith
    by_end false [] h = omega arith
    by_end false (line ∷ lines) h = omega arith

module _ (m n : ℕ) (reading : ReadSoFar) where
  pub all_read : read_lines m n reading [] ≡ finish n reading
  unfolding read_lines
  all_read = refl

  pub line_read : (line : List ℕ) (rest : List (List ℕ)) → read_lines m n reading (line ∷ rest) ≡ read_lines m (n + 1)
      (next m (n + 1) reading line) rest
  unfolding read_lines
  line_read line rest = ap (λ (k : ℕ). read_lines m k (next m k reading line) rest) (sym (add-one n))

  -- what is refused stays so
  pub line_refused : (line : List ℕ) (rest : List (List ℕ)) (why : Refusal) → next m (n + 1) reading line ≡ Err why →
      read_lines m n reading (line ∷ rest) ≡ Err why
  line_refused line rest why e =
      line_read line rest ∙ ap (λ (r : ReadSoFar). read_lines m (n + 1) r rest) e ∙ refused_stays m (n + 1) why rest

-- ---- words

module _ (line memory : List ℕ) (first count k : ℕ) where
  pub word_stored : k < count →
      sets memory (first + k) (words_of (count - k) (drop (9 + 8 * k) line))
      ≡ sets (set memory (first + k) (word_of (drop (9 + 8 * k) line))) (first + (k + 1))
      (words_of (count - (k + 1)) (drop (9 + 8 * (k + 1)) line))
  word_stored more =
      ap (λ (n : ℕ). sets memory (first + k) (words_of n (drop (9 + 8 * k) line))) one_more
      ∙ ap (λ (n : ℕ). sets (set memory (first + k) (word_of (drop (9 + 8 * k) line))) n (words_of (count - (k + 1)) (drop 8 (drop (9 + 8 * k) line)))) next_place
      ∙ ap (λ (t : List ℕ). sets (set memory (first + k) (word_of (drop (9 + 8 * k) line))) (first + (k + 1)) (words_of (count - (k + 1)) t))
      (drop-drop 8 (9 + 8 * k) line ∙ ap (λ (n : ℕ). drop n line) eight_on)
    where
      one_more : count - k ≡ suc (count - (k + 1))
      one_more = omega arith

      next_place : suc (first + k) ≡ first + (k + 1)
      next_place = omega arith

      eight_on : 9 + 8 * k + 8 ≡ 9 + 8 * (k + 1)
      eight_on = omega arith
