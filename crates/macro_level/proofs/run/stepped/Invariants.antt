-- The steps that are left from here are those of the whole from the start.
use Rattle.std.proofs.Common.{◌≡◌, drop}
use Rattle.macro_meaning.specs.Run.{steps}
use Rattle.macro_level.proofs.run.stepped.Given as goal

abbrev pub invariant-loop-request : goal.invariant-loop-request
invariant-loop-request l = steps l.initial.memory l.initial.machine l.requests ≡ steps l.memory l.machine (drop l.request-index l.requests)
