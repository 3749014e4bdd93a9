-- What the writer answers and what it leaves in the room, case by case.
use Prim.Native.Nat.{ℕ, ◌<◌}
use mathlib.Core.Path.{◌≡◌, refl, sym, ◌∙◌}
use mathlib.Core.Bool.{Bool, true, false, not}
use mathlib.Core.List.{List}
use lib.ListN.{length}
use borrow.Author.Tests.{lt-leb}
use Rattle.words.specs.Lengths.{legal_length}
use Rattle.words.proofs.Cases.{turned, upright}
use Rattle.std.specs.Prelude.{Err}
use Rattle.answers.specs.declared.Refusal.TheVariants.{MemoryLength, Room}
use Rattle.std.specs.Result.{is_ok}
use Rattle.image_meaning.specs.Writing.{Written, written_length, write_answer, room_after}

module _ (memory room : List ℕ) where
  abbrev pub AsMeant : Written → List ℕ → Type 0
  AsMeant answer after = (answer ≡ write_answer memory room) × (after ≡ room_after memory room)

  untouched : {answer : Written} → write_answer memory room ≡ answer → is_ok answer ≡ false → AsMeant answer room
  unfolding room_after
  untouched e h = (sym e, rw (e, h))

  module _ {legal : Bool} (l : legal ≡ legal_length (length memory)) where
    pub length_refused : not legal ≡ true → AsMeant (Err MemoryLength) room
    unfolding write_answer
    length_refused h = untouched (rw (← l, turned legal h)) refl

    module _ (h : not legal ≡ false) where
      pub is_legal : legal_length (length memory) ≡ true
      is_legal = sym l ∙ upright legal h

      pub room_refused : length room < written_length (length memory) → AsMeant
          (Err (Room (written_length (length memory)))) room
      unfolding write_answer
      room_refused short = untouched (rw (is_legal, lt-leb (written_length (length memory)) (length room) short)) refl
