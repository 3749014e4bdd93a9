-- What is left to put, from here, is the whole text from the start.
use Rattle.std.proofs.Common.{◌≡◌, ◌*◌, drop}
use Rattle.std.proofs.lemmas.List.Edits.{sets}
use Rattle.image_meaning.specs.Writing.{text_from, written_text}
use Rattle.image_writer.proofs.put_text.Given as goal

abbrev pub invariant-loop-i : goal.invariant-loop-i
invariant-loop-i l =
    sets l.initial.room 0 (written_text l.memory) ≡ sets l.room (44 * l.i) (text_from l.i (drop (4 * l.i) l.memory))
