-- Reading a written image gives the same memory, for every legal number of words: the text is accepted, and it makes any old memory of
-- that size equal to the one that was written.
use Prim.Native.Nat.{ℕ, zero, suc, ◌+◌, ◌*◌, ◌≤◌}
use native.Mathlib.Omega.{arith}
use mathlib.Core.Path.{◌≡◌, refl, sym, ap, ◌∙◌}
use mathlib.Core.Bool.{true}
use mathlib.Core.List.{List, [], ◌∷◌, ◌++◌, append_assoc, foldl}
use lib.ListN.{length, take, drop, length-append}
use lib.Seq.{sets, sets-eq, take_at, drop_at}
use borrow.Author.Tests.{le-leb}
use Rattle.words.specs.Lengths.{legal_length}
use Rattle.std.specs.Prelude.{Ok}
use Rattle.image_meaning.specs.declared.Reading.TheVariants.{Open}
use Rattle.image_meaning.specs.Digits.{Words}
use Rattle.image_meaning.specs.Lines.{lines_of}
use Rattle.image_meaning.specs.Reading.{ReadSoFar, most_text, read_lines, with_line, read_answer, memory_after}
use Rattle.image_meaning.specs.Writing.{data_line, data_bytes, end_bytes, text_from, written_text, written_length}
use Rattle.image_meaning.proofs.InFours.{in_fours}
use Rattle.image_meaning.proofs.WrittenLines.{line_cut_off}
use Rattle.image_meaning.proofs.WrittenRecords.{text_ended, nothing_stored, words_placed, words_stored}

-- a list taken four by four, q times
data ByFours : ℕ → List ℕ → Type 0 where
  done : ByFours 0 []
  take_four : {q w x y z : ℕ} {rest : List ℕ} → ByFours q rest → ByFours (suc q) (w ∷ x ∷ y ∷ z ∷ rest)

by_fours : (q : ℕ) (l : List ℕ) → length l ≡ 4 * q → ByFours q l
by_fours zero [] e = done
by_fours zero (w ∷ l) e = absurd (omega arith)
by_fours (suc q) [] e = absurd (omega arith)
by_fours (suc q) (w ∷ []) e = absurd (omega arith)
by_fours (suc q) (w ∷ x ∷ []) e = absurd (omega arith)
by_fours (suc q) (w ∷ x ∷ y ∷ []) e = absurd (omega arith)
by_fours (suc q) (w ∷ x ∷ y ∷ z ∷ l) e = take_four (by_fours q l (omega arith))

-- ---- the text is accepted

accepted : {q : ℕ} {words : List ℕ} → ByFours q words → Words words → (i m lines : ℕ) → i + q ≤ 4096 → 4 * (i + q) ≤ m →
    read_lines m lines (Ok (Open (16 * i))) (lines_of (text_from i words)) ≡ Ok tt
unfolding read_lines text_from
accepted done ws i m lines h k =
    ap (read_lines m lines (Ok (Open (16 * i)))) (line_cut_off end_bytes [])
    ∙ ap (λ (r : ReadSoFar). read_lines m (suc lines) r []) (text_ended m (suc lines) (16 * i))
accepted (take_four {w = w} {x = x} {y = y} {z = z} {rest = rest} more) ws i m lines h k =
    ap (read_lines m lines (Ok (Open (16 * i)))) (line_cut_off (data_bytes (16 * i) w x y z) (text_from (suc i) rest))
    ∙ ap (λ (r : ReadSoFar). read_lines m (suc lines) r (lines_of (text_from (suc i) rest)))
    (words_placed i w x y z (omega arith) (ws 0) (ws 1) (ws 2) (ws 3) m (suc lines) (omega arith))
    ∙ accepted more (λ j. ws (suc (suc (suc (suc j))))) (suc i) m (suc lines) (omega arith) (omega arith)

-- ---- and stores the words

four_stored : (front old new rest : List ℕ) (n : ℕ) → length front ≡ n → length old ≡ length new →
    sets (front ++ (old ++ rest)) n new ≡ front ++ (new ++ rest)
four_stored front old new rest n p q =
    sets-eq new (front ++ (old ++ rest)) n room
    ∙ append_assoc (take n (front ++ (old ++ rest))) new (drop (n + length new) (front ++ (old ++ rest)))
    ∙ ap (λ (l : List ℕ). l ++ (new ++ drop (n + length new) (front ++ (old ++ rest)))) (take_at front (old ++ rest) n p)
    ∙ ap (λ (l : List ℕ). front ++ (new ++ drop (n + length new) l)) (sym (append_assoc front old rest))
    ∙ ap (λ (l : List ℕ). front ++ (new ++ l)) (drop_at (front ++ old) rest (n + length new) (omega (arith, length-append front old)))
  where
    room : n + length new ≤ length (front ++ (old ++ rest))
    room = omega (arith, length-append front (old ++ rest), length-append old rest)

all_stored : {q : ℕ} {words old : List ℕ} → ByFours q words → ByFours q old → Words words → (i : ℕ) (front : List ℕ) → i + q ≤ 4096 →
    length front ≡ 4 * i → foldl with_line (front ++ old) (lines_of (text_from i words)) ≡ front ++ words
unfolding text_from
all_stored done done ws i front h f =
    ap (foldl with_line (front ++ [])) (line_cut_off end_bytes []) ∙ nothing_stored (front ++ [])
all_stored (take_four {w = w} {x = x} {y = y} {z = z} {rest = rest} more)
    (take_four {w = a} {x = b} {y = c} {z = d} {rest = old} olds) ws i front h f =
    let new = w ∷ x ∷ y ∷ z ∷ [] in
    ap (foldl with_line (front ++ (a ∷ b ∷ c ∷ d ∷ old))) (line_cut_off (data_bytes (16 * i) w x y z) (text_from (suc i) rest))
    ∙ ap (λ (memory : List ℕ). foldl with_line memory (lines_of (text_from (suc i) rest)))
    (words_stored i w x y z (omega arith) (ws 0) (ws 1) (ws 2) (ws 3) (front ++ (a ∷ b ∷ c ∷ d ∷ old))
    ∙ four_stored front (a ∷ b ∷ c ∷ d ∷ []) new old (4 * i) f refl
    ∙ sym (append_assoc front new old))
    ∙ all_stored more olds (λ j. ws (suc (suc (suc (suc j))))) (suc i) (front ++ new) (omega arith)
    (omega (arith, length-append front new))
    ∙ append_assoc front new rest

-- ---- the written length

text_length : {q : ℕ} {words : List ℕ} → ByFours q words → (i : ℕ) → length (text_from i words) ≡ written_length (length words)
unfolding text_from
text_length done i = refl
text_length (take_four {w = w} {x = x} {y = y} {z = z} {rest = rest} more) i =
    omega (arith, text_length more (suc i), length-append (data_line (16 * i) w x y z) (text_from (suc i) rest))

module _ (memory : List ℕ) (legal : legal_length (length memory) ≡ true) where
  quarter : ℕ
  quarter = (in_fours (length memory) legal).0

  exactly : length memory ≡ 4 * quarter
  unfolding quarter
  exactly = (in_fours (length memory) legal).1

  at_most : quarter ≤ 4096
  unfolding quarter
  at_most = (in_fours (length memory) legal).2

  pub text_has_its_length : length (written_text memory) ≡ written_length (length memory)
  text_has_its_length = text_length (by_fours quarter memory exactly) 0

  module _ (words : Words memory) (old : List ℕ) (same_size : length old ≡ length memory) where
    pub written_text_accepted : read_answer old (written_text memory) ≡ Ok tt
    unfolding read_answer
    written_text_accepted =
        rw (same_size, legal, le-leb (length (written_text memory)) most_text short)
        (accepted (by_fours quarter memory exactly) words 0 (length memory) 0 (omega (arith, at_most)) (omega (arith, exactly)))
      where
        short : length (written_text memory) ≤ most_text
        short = omega (arith, text_has_its_length, exactly, at_most)

    pub written_text_read : memory_after old (written_text memory) ≡ memory
    unfolding memory_after
    written_text_read =
        rw written_text_accepted
        (all_stored (by_fours quarter memory exactly) (by_fours quarter old (same_size ∙ exactly)) words 0 []
        (omega (arith, at_most)) refl)
