-- What the image program makes of its input (the scope, on the image program): at most 65,536 bytes, read into 16 zero words, and the
-- image of these where nothing was refused. Assumes nothing.
use Rattle.std.specs.Prelude.{ℕ, cond, List, leb, length, replicate}
use Rattle.answers.specs.Ends.{End}
use Rattle.std.specs.Prelude.{Err}
use Rattle.answers.specs.declared.Refusal.TheVariants.{TextLength}
use Rattle.answers.specs.Ends.{is_done}
use Rattle.image_meaning.specs.Reading.{read_answer, memory_after}
use Rattle.image_meaning.specs.Writing.{room_after}

abbrev pub most_input : ℕ
most_input = 65536

abbrev pub zeros : List ℕ
zeros = replicate 16 0

abbrev pub image_answer : List ℕ → End
image_answer text = cond (leb (length text) most_input) (read_answer zeros text) (Err TextLength)

abbrev pub image_room : List ℕ → List ℕ → List ℕ
image_room text room = cond (is_done (image_answer text)) (room_after (memory_after zeros text) room) room
