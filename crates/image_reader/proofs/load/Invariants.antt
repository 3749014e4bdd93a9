-- Storing the lines that are left is storing all of them from the start.
use Rattle.std.proofs.Common.{◌≡◌}
use mathlib.Core.List.{foldl}
use Rattle.image_meaning.specs.Lines.{lines_of}
use Rattle.image_meaning.specs.Reading.{with_line, loaded}
use Rattle.image_reader.proofs.load.Given as goal

abbrev pub invariant-loop-line : goal.invariant-loop-line
invariant-loop-line l =
    (loaded l.initial.memory l.text ≡ foldl with_line l.memory (lines_of l.line-iterator.rest.now))
