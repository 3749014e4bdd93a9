-- A refused line ends the reading, and what is behind it changes nothing.
use Rattle.std.proofs.Common.{◌≡◌, Ok, Err, rules, sym, ◌∙◌}
use Rattle.image_meaning.specs.Lines.{lines_of}
use Rattle.image_reader.proofs.LineTurns.{line_refused}
use Rattle.image_reader.proofs.judge.Goals as goal

pub returns-in_err-reading : goal.returns-in_err-reading
returns-in_err-reading c =
    let why = c.in_err-reading.field-0.0 in
    let told : c.from_residual.result ≡ Err why = search rules in
    let lines = c.in-Some.ensures.steps in
    let refused = line_refused c.args.words c.loop-line.lines (Ok c.loop-line.reading) c.in-Some.line.now (lines_of c.next.new.self.rest.now) why
    (sym c.go_on.ensures ∙ c.in_err-reading.was) in
    cc (told, lines, refused, c.loop-line.invariant.0)
