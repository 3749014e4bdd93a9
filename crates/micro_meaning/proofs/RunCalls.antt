-- A run that is refused by a test: its answer is the test's, with everything as lent.
use Prim.Native.Nat.{ℕ}
use mathlib.Core.Path.{◌≡◌}
use mathlib.Core.Bool.{false}
use mathlib.Core.List.{List}
use lib.ListN.{length}
use Rattle.answers.specs.Ends.{is_done}
use Rattle.micro_meaning.specs.declared.MicroState.{MicroState}
use Rattle.micro_meaning.specs.Run.{micro_test, micro_refused, run}

pub refused : (program mem : List ℕ) (s : MicroState) (requests : List ℕ) → is_done (micro_test (length mem) program s requests) ≡ false
    → run program mem s requests ≡ micro_refused (micro_test (length mem) program s requests) s mem
unfolding run
refused program mem s requests h = rw h
