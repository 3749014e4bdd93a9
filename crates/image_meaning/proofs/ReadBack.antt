-- The round trip, joined to what the writer and the reader promise: for every legal number of words and room enough, the write is
-- accepted, and what it leaves in the room, cut to its length and given to the reader with any old memory of the same size, is accepted
-- too and makes the memory equal. And the rest of the room is as lent.
use Prim.Native.Nat.{ℕ, ◌≤◌}
use native.Mathlib.Nat.{zero-add}
use native.Mathlib.Omega.{arith}
use mathlib.Core.Path.{◌≡◌, ap, ◌∙◌}
use mathlib.Core.Bool.{true}
use mathlib.Core.List.{List, ◌++◌}
use lib.ListN.{length, take, drop}
use lib.Seq.{sets-eq, take_at, drop_at}
use borrow.Author.Tests.{le-leb}
use Rattle.words.specs.Lengths.{legal_length}
use Rattle.answers.specs.Ends.{End}
use Rattle.std.specs.Prelude.{Ok}
use Rattle.std.specs.Result.{result_unwrap_or}
use Rattle.image_meaning.specs.Digits.{Words}
use Rattle.image_meaning.specs.Reading.{read_answer, memory_after}
use Rattle.image_meaning.specs.Writing.{Written, written_text, written_length, write_answer, room_after}
use Rattle.image_meaning.proofs.RoundTrip.{text_has_its_length, written_text_accepted, written_text_read}

module _ (memory room : List ℕ) (legal : legal_length (length memory) ≡ true) (fits : written_length (length memory) ≤ length room) where
  pub write_accepted : write_answer memory room ≡ Ok (written_length (length memory))
  unfolding write_answer
  write_accepted = rw (legal, le-leb (written_length (length memory)) (length room) fits)

  front_and_rest : room_after memory room ≡ written_text memory ++ drop (length (written_text memory)) room
  unfolding room_after
  front_and_rest =
      rw write_accepted
      (sets-eq (written_text memory) room 0 (omega (arith, text_has_its_length memory legal, fits))
      ∙ ap (λ (n : ℕ). written_text memory ++ drop n room) (zero-add (length (written_text memory))))

  pub text_in_the_room : take (written_length (length memory)) (room_after memory room) ≡ written_text memory
  text_in_the_room =
      ap (take (written_length (length memory))) front_and_rest
      ∙ take_at (written_text memory) (drop (length (written_text memory)) room) (written_length (length memory))
      (text_has_its_length memory legal)

  pub rest_of_the_room_as_lent :
      drop (written_length (length memory)) (room_after memory room) ≡ drop (written_length (length memory)) room
  rest_of_the_room_as_lent =
      ap (drop (written_length (length memory))) front_and_rest
      ∙ drop_at (written_text memory) (drop (length (written_text memory)) room) (written_length (length memory))
      (text_has_its_length memory legal)
      ∙ ap (λ (n : ℕ). drop n room) (text_has_its_length memory legal)

  -- `r`, `left`, `s` and `after` are what the two contracts speak of: the writer's answer and the room it leaves, the reader's answer and
  -- the memory it leaves
  pub read_back : Words memory → (old : List ℕ) → length old ≡ length memory →
      {r : Written} {left : List ℕ} → r ≡ write_answer memory room → left ≡ room_after memory room →
      {s : End} {after : List ℕ} → s ≡ read_answer old (take (result_unwrap_or r 0) left) → after ≡ memory_after old (take (result_unwrap_or r 0) left) →
      (r ≡ Ok (written_length (length memory))) × (s ≡ Ok tt) × (after ≡ memory)
  read_back words old same_size {r} {left} w e read stored = (
    w ∙ write_accepted,
    read ∙ ap (read_answer old) text ∙ written_text_accepted memory legal words old same_size,
    stored ∙ ap (memory_after old) text ∙ written_text_read memory legal words old same_size,
  )
    where
      text : take (result_unwrap_or r 0) left ≡ written_text memory
      text = rw (w, write_accepted, e) text_in_the_room
