-- What stays as lent: all of memory after a refused read, all of the room after a refused write, every word that no record of the text
-- names, and the lengths of both.
use Prim.Native.Nat.{ℕ, zero, suc, ◌/◌}
use mathlib.Core.Path.{◌≡◌, refl, sym, ap, ◌∙◌}
use mathlib.Core.Bool.{Bool, true, false, false≢true, ◌||◌, cond}
use mathlib.Core.List.{List, [], ◌∷◌, foldl}
use lib.Dec.{eqb}
use lib.ListN.{length, get_or, drop}
use lib.Seq.{sets, length-sets}
use Rattle.answers.specs.Ends.{End}
use Rattle.std.specs.Prelude.{Ok}
use Rattle.answers.specs.Ends.{is_done}
use Rattle.std.specs.Result.{is_ok}
use Rattle.answers.proofs.OneNumberAnEnd.{only_done_is_done}
use Rattle.image_placing.specs.Placing.{names, stored}
use Rattle.image_placing.proofs.WordsNotNamed.{not_named_kept}
use Rattle.image_meaning.specs.Digits.{words_of}
use Rattle.image_meaning.specs.Lines.{lines_of}
use Rattle.image_meaning.specs.Records.{count_of, address_of, kind_of, data_of}
use Rattle.image_meaning.specs.Reading.{data_kind, with_line, loaded, line_names, named_in, read_answer, memory_after}
use Rattle.image_meaning.specs.Writing.{written_text, write_answer, room_after}

-- ---- refused

not_done : (end : End) → (end ≡ Ok tt → ⊥) → is_done end ≡ false
not_done end h = by_test (is_done end) refl
  where
    by_test : (t : Bool) → is_done end ≡ t → is_done end ≡ false
    by_test true e = absurd (h (only_done_is_done end e))
    by_test false e = e

pub refused_read_leaves_memory : (memory text : List ℕ) → (read_answer memory text ≡ Ok tt → ⊥) → memory_after memory text ≡ memory
unfolding memory_after
refused_read_leaves_memory memory text h = rw (not_done (read_answer memory text) h)

pub refused_write_leaves_the_room : (memory room : List ℕ) → is_ok (write_answer memory room) ≡ false → room_after memory room ≡ room
unfolding room_after
refused_write_leaves_the_room memory room h = rw h

-- ---- every word that no record names

neither_of : (x y : Bool) → (x || y) ≡ false → (x ≡ false) × (y ≡ false)
neither_of true y e = absurd (false≢true (sym e))
neither_of false y e = (refl, e)

pub as_many : (n : ℕ) (t : List ℕ) → length (words_of n t) ≡ n
as_many zero t = refl
as_many (suc n) t = ap suc (as_many n (drop 8 t))

-- a data record's store, or none
kind_keeps : (memory words : List ℕ) (address count w : ℕ) (is_data : Bool) → length words ≡ count / 4 →
    cond is_data (names address count w) false ≡ false → get_or (cond is_data (stored memory address words) memory) w 0 ≡ get_or memory w 0
kind_keeps memory words address count w true n e = not_named_kept memory words address count w n e
kind_keeps memory words address count w false n e = refl

pub line_keeps : (memory line : List ℕ) (w : ℕ) → line_names line w ≡ false → get_or (with_line memory line) w 0 ≡ get_or memory w 0
line_keeps memory line w h =
    kind_keeps memory (words_of (count_of line / 4) (data_of line)) (address_of line) (count_of line) w (eqb (kind_of line) data_kind)
    (as_many (count_of line / 4) (data_of line)) h

lines_keep : (lines : List (List ℕ)) (memory : List ℕ) (w : ℕ) → named_in lines w ≡ false →
    get_or (foldl with_line memory lines) w 0 ≡ get_or memory w 0
lines_keep [] memory w h = refl
lines_keep (line ∷ lines) memory w h =
    let neither = neither_of (line_names line w) (named_in lines w) h in
    lines_keep lines (with_line memory line) w neither.1 ∙ line_keeps memory line w neither.0

pub words_not_named_keep_their_value : (memory text : List ℕ) (w : ℕ) → named_in (lines_of text) w ≡ false →
    get_or (memory_after memory text) w 0 ≡ get_or memory w 0
unfolding memory_after
words_not_named_keep_their_value memory text w h = by_answer (is_done (read_answer memory text))
  where
    by_answer : (t : Bool) → get_or (cond t (loaded memory text) memory) w 0 ≡ get_or memory w 0
    by_answer true = lines_keep (lines_of text) memory w h
    by_answer false = refl

-- ---- the lengths of memory and room

pub line_keeps_the_length : (memory line : List ℕ) → length (with_line memory line) ≡ length memory
line_keeps_the_length memory line = by_kind (eqb (kind_of line) data_kind)
  where
    by_kind : (d : Bool) → length (cond d
        (stored memory (address_of line) (words_of (count_of line / 4) (data_of line))) memory) ≡ length memory
    by_kind true = length-sets memory (address_of line / 4) (words_of (count_of line / 4) (data_of line))
    by_kind false = refl

lines_keep_the_length : (lines : List (List ℕ)) (memory : List ℕ) → length (foldl with_line memory lines) ≡ length memory
lines_keep_the_length [] memory = refl
lines_keep_the_length (line ∷ lines) memory = lines_keep_the_length lines (with_line memory line) ∙ line_keeps_the_length memory line

pub memory_keeps_its_length : (memory text : List ℕ) → length (memory_after memory text) ≡ length memory
unfolding memory_after
memory_keeps_its_length memory text = by_answer (is_done (read_answer memory text))
  where
    by_answer : (t : Bool) → length (cond t (loaded memory text) memory) ≡ length memory
    by_answer true = lines_keep_the_length (lines_of text) memory
    by_answer false = refl

pub room_keeps_its_length : (memory room : List ℕ) → length (room_after memory room) ≡ length room
unfolding room_after
room_keeps_its_length memory room = by_answer (is_ok (write_answer memory room))
  where
    by_answer : (t : Bool) → length (cond t (sets room 0 (written_text memory)) room) ≡ length room
    by_answer true = length-sets room 0 (written_text memory)
    by_answer false = refl
