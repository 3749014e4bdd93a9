-- The loop's invariant: what is left of the survey from here is all of it.
use Rattle.std.proofs.Common.{◌≡◌}
use Rattle.check_meaning.specs.Survey.{surveyed}
use Rattle.check_walks.proofs.SurveyTurns.{from_microcycle}
use Rattle.check_walks.proofs.surveyed.Given as goal

abbrev pub invariant-loop-count : goal.invariant-loop-count
invariant-loop-count l = surveyed l.program ≡ from_microcycle l.program l.s l.count
