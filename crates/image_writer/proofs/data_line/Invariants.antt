-- What is left to put, from here, is what was to be put from the start.
use Rattle.std.proofs.Common.{◌≡◌, ◌+◌, ◌*◌, length, drop}
use Rattle.std.proofs.lemmas.List.Edits.{sets}
use Rattle.image_meaning.specs.Digits.{hex}
use Rattle.image_writer.proofs.data_line.Given as goal

abbrev pub invariant-loop-k : goal.invariant-loop-k
invariant-loop-k l =
    (sets l.initial.line 1 (hex l.b-items) ≡ sets l.line (2 * l.k + 1) (hex (drop l.k l.b-items)))
    × (length l.line ≡ 44)
