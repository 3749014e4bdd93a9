-- Reading what is left from here is reading the whole text from the start.
use Rattle.std.proofs.Common.{◌≡◌, ◌+◌, ◌≤◌, length, Ok}
use Rattle.image_meaning.specs.Lines.{lines_of}
use Rattle.image_meaning.specs.Reading.{judged, read_lines}
use Rattle.image_reader.proofs.judge.Given as goal

abbrev pub invariant-loop-line : goal.invariant-loop-line
invariant-loop-line l =
    (judged l.words l.text ≡ read_lines l.words l.lines (Ok l.reading) (lines_of l.line-iterator.rest.now))
    × (l.lines + length (lines_of l.line-iterator.rest.now) ≤ length l.text)
