-- The loop's invariant: what the words from here on add is what all of them add.
use Rattle.std.proofs.Common.{◌≡◌, drop}
use Rattle.check_meaning.specs.Survey.{nowhere, spread}
use Rattle.check_walks.proofs.spread.Given as goal

abbrev pub invariant-loop-at : goal.invariant-loop-at
invariant-loop-at l = spread 0 l.program l.standing nowhere ≡ spread l.at (drop l.at l.program) l.standing l.found
