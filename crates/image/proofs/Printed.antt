-- What is printed where nothing is refused: a room of 188 bytes is the image of the words that were read, whole and nothing else.
use Prim.Native.Nat.{ℕ}
use native.Mathlib.Omega.{arith}
use mathlib.Core.Path.{◌≡◌, refl, sym, ap, ◌∙◌}
use mathlib.Core.Bool.{true}
use mathlib.Core.List.{List}
use lib.Count.{ones, ones_in}
use lib.ListN.{length}
use lib.Seq.{take_all}
use Rattle.words.specs.Lengths.{legal_length}
use Rattle.std.specs.Prelude.{Ok}
use Rattle.image_meaning.specs.Reading.{memory_after}
use Rattle.image_meaning.specs.Writing.{written_text, written_length, room_after}
use Rattle.image_meaning.proofs.AsLent.{memory_keeps_its_length, room_keeps_its_length}
use Rattle.image_meaning.proofs.ReadBack.{text_in_the_room}
use Rattle.image.specs.Image.{zeros, image_answer, image_room}

sixteen : legal_length 16 ≡ true
unfolding legal_length ones ones_in
sixteen = refl

pub image_printed : (text room : List ℕ) → image_answer text ≡ Ok tt → length room ≡ 188 →
    image_room text room ≡ written_text (memory_after zeros text)
image_printed text room e r =
    let read = memory_after zeros text in
    let words : length read ≡ 16 = memory_keeps_its_length zeros text in
    rw e
    (sym (take_all (written_length (length read)) (room_after read room) (omega (arith, words, r, room_keeps_its_length read room)))
    ∙ text_in_the_room read room (ap legal_length words ∙ sixteen) (omega (arith, words, r)))
