-- Lines as they are stored, one behind the other: the turns of the loop over the words, and the end record.
use Prim.Native.Nat.{ℕ, zero, suc, ◌+◌, ◌*◌, ◌<◌, ◌≤◌}
use native.Mathlib.Nat.{add-zero}
use native.Mathlib.Numerals.{add-one}
use native.Mathlib.Omega.{arith}
use mathlib.Core.Path.{◌≡◌, refl, sym, ap, ◌∙◌}
use mathlib.Core.List.{List, [], ◌∷◌, ◌++◌, append_assoc}
use lib.ListN.{length, get_or, take, drop, set, drop_of_length-le}
use lib.Seq.{sets, sets-eq, drop-drop}
use borrow.Rule.Slice.PartMut.{put_mid}
use Rattle.std.specs.Simd.{first_chunks}
use Rattle.std.proofs.lemmas.List.{length-drop}
use Rattle.image_meaning.specs.Digits.{digit}
use Rattle.image_meaning.specs.Writing.{checksum, data_line, end_line, text_from}

-- ---- one behind the other

one_behind_other : (room front rest : List ℕ) (at : ℕ) → sets room at (front ++ rest) ≡ sets (sets room at front) (at + length front) rest
one_behind_other room [] rest at = rw (add-zero at)
one_behind_other room (c ∷ front) rest at =
    one_behind_other (set room at c) front rest (suc at)
    ∙ ap (λ (n : ℕ). sets (sets (set room at c) (suc at) front) n rest) (omega arith)

-- a line copied to its place
pub copied : (room line : List ℕ) (at k : ℕ) {after : List ℕ} → after ≡ line → length line ≡ k → at + k ≤ length room →
    put_mid at k room after ≡ sets room at line
copied room line at k e l fits =
    ap (put_mid at k room) e
    ∙ sym (sets-eq line room at (omega arith) ∙ append_assoc (take at room) line (drop (at + length line) room) ∙ rw (l, drop-drop k at room))

-- ---- the words, four by four

pub four_at : (i n : ℕ) (words : List ℕ) → i < n → get_or (first_chunks 4 n words) i [] ≡ take 4 (drop (4 * i) words)
four_at i zero words h = absurd (omega arith)
four_at zero (suc n) words h = refl
four_at (suc i) (suc n) words h =
    four_at i n (drop 4 words) (omega arith)
    ∙ ap (take 4) (drop-drop (4 * i) 4 words ∙ ap (λ (k : ℕ). drop k words) (omega arith))

abbrev four_line : ℕ → List ℕ → List ℕ
four_line i four = data_line (16 * i) (get_or four 0 0) (get_or four 1 0) (get_or four 2 0) (get_or four 3 0)

line_and_text : (i : ℕ) (words : List ℕ) → 4 ≤ length words →
    text_from i words ≡ four_line i (take 4 words) ++ text_from (suc i) (drop 4 words)
unfolding text_from
line_and_text i [] h = absurd (omega arith)
line_and_text i (w ∷ []) h = absurd (omega arith)
line_and_text i (w ∷ x ∷ []) h = absurd (omega arith)
line_and_text i (w ∷ x ∷ y ∷ []) h = absurd (omega arith)
line_and_text i (w ∷ x ∷ y ∷ z ∷ words) h = refl

pub words_put : (memory room : List ℕ) (i : ℕ) → 4 * i + 4 ≤ length memory → {four line after : List ℕ} →
    four ≡ take 4 (drop (4 * i) memory) → line ≡ four_line i four → after ≡ sets room (44 * i) line →
    sets room (44 * i) (text_from i (drop (4 * i) memory)) ≡ sets after (44 * (i + 1)) (text_from (i + 1) (drop (4 * (i + 1)) memory))
words_put memory room i inside {four} {line} {after} d e f =
    ap (sets room (44 * i)) (line_and_text i (drop (4 * i) memory) long)
    ∙ one_behind_other room (four_line i (take 4 (drop (4 * i) memory))) (text_from (suc i) (drop 4 (drop (4 * i) memory))) (44 * i)
    ∙ ap (λ (r : List ℕ). sets r (44 * i + 44) (text_from (suc i) (drop 4 (drop (4 * i) memory)))) there
    ∙ rw (drop-drop 4 (4 * i) memory, next_words, next_line, add-one i)
  where
    long : 4 ≤ length (drop (4 * i) memory)
    long = omega (arith, length-drop (4 * i) memory)

    there : sets room (44 * i) (four_line i (take 4 (drop (4 * i) memory))) ≡ after
    there = ap (λ (t : List ℕ). sets room (44 * i) (four_line i t)) (sym d) ∙ ap (sets room (44 * i)) (sym e) ∙ sym f

    next_words : 4 * i + 4 ≡ 4 * (i + 1)
    next_words = omega arith

    next_line : 44 * i + 44 ≡ 44 * (i + 1)
    next_line = omega arith

pub end_put : (memory room : List ℕ) (i : ℕ) → length memory ≤ 4 * i → {after : List ℕ} → after ≡ sets room (44 * i) end_line →
    sets room (44 * i) (text_from i (drop (4 * i) memory)) ≡ after
unfolding text_from
end_put memory room i h e = ap (λ (ws : List ℕ). sets room (44 * i) (text_from i ws)) (drop_of_length-le memory {i = 4 * i} h) ∙ sym e

-- the end record's line, as the code has it
pub end_line_is : end_line ≡ 58 ∷ 48 ∷ 48 ∷ 48 ∷ 48 ∷ 48 ∷ 48 ∷ 48 ∷ 49 ∷ 70 ∷ 70 ∷ 10 ∷ []
unfolding digit checksum
end_line_is = refl
