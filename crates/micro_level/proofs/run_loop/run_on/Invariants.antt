-- The loop's invariant: running what is left from here is running the whole from the start; returns are at most microcycles.
use Prim.Native.Nat.{◌≤◌}
use mathlib.Core.Path.{◌≡◌}
use lib.ListN.{drop}
use Rattle.micro_meaning.specs.Performing.{machine}
use Rattle.micro_meaning.specs.Run.{run_on}
use Rattle.micro_level.proofs.run_loop.run_on.Given as goal

abbrev pub invariant-loop-at : goal.invariant-loop-at
invariant-loop-at l = record {
  returns_at_most : l.steps.count ≤ l.at;
  as_whole : run_on l.program l.initial.memory (machine l.initial.registers l.initial.core) 0 0 l.requests ≡ run_on l.program l.memory (machine l.registers l.core) l.at l.steps.count (drop l.at l.requests);
}
