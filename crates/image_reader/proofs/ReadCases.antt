-- What the reader answers and what it leaves in memory, case by case.
use Prim.Native.Nat.{ℕ, ◌<◌}
use mathlib.Core.Path.{◌≡◌, refl, sym}
use mathlib.Core.Bool.{Bool, true, false, not}
use mathlib.Core.List.{List}
use lib.ListN.{length}
use borrow.Author.Tests.{lt-leb}
use Rattle.words.specs.Lengths.{legal_length}
use Rattle.words.proofs.Cases.{turned, upright}
use Rattle.answers.specs.Ends.{End}
use Rattle.std.specs.Prelude.{Err}
use Rattle.answers.specs.declared.Refusal.TheVariants.{MemoryLength, TextLength}
use Rattle.answers.specs.Ends.{is_done}
use Rattle.image_meaning.specs.Reading.{most_text, read_answer, memory_after}

module _ (memory text : List ℕ) where
  abbrev pub AsMeant : End → List ℕ → Type 0
  AsMeant end after = (end ≡ read_answer memory text) × (after ≡ memory_after memory text)

  untouched : {end : End} → read_answer memory text ≡ end → is_done end ≡ false → AsMeant end memory
  unfolding memory_after
  untouched e h = (sym e, rw (e, h))

  module _ {legal : Bool} (l : legal ≡ legal_length (length memory)) where
    pub length_refused : not legal ≡ true → AsMeant (Err MemoryLength) memory
    unfolding read_answer
    length_refused h = untouched (rw (← l, turned legal h)) refl

    module _ (h : not legal ≡ false) where
      pub text_refused : most_text < length text → AsMeant (Err TextLength) memory
      unfolding read_answer
      text_refused long = untouched (rw (← l, upright legal h, lt-leb (length text) most_text long)) refl
