-- The request counts in phase one, which latches it, and in no other phase.
use Prim.Native.Nat.{ℕ}
use mathlib.Core.Path.{◌≡◌}
use mathlib.Core.Bool.{false}
use mathlib.Core.List.{List}
use lib.Dec.{eqb}
use Rattle.phase_meaning.specs.Machine.{PhaseMachine}
use Rattle.phase_meaning.specs.Call.{phase_done}

pub only_phase_one_listens : (program mem : List ℕ) (s : PhaseMachine) (request other : ℕ) → eqb s.phase 0 ≡ false
    → phase_done program mem s request ≡ phase_done program mem s other
unfolding phase_done
only_phase_one_listens program mem s request other e = rw e
