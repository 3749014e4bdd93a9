-- What is left of a run when i bytes are done: a step and then the rest, or nothing. The premises are what a call of the step ensures.
use Prim.Native.Nat.{ℕ, ◌+◌, ◌<◌}
use native.Mathlib.Numerals.{add-one}
use mathlib.Core.Path.{◌≡◌}
use mathlib.Core.List.{List}
use lib.ListN.{length, get_or, drop}
use lib.Seq.{drop-cons, drop-length}
use Rattle.macro_meaning.specs.Machine.{MacroMachine}
use Rattle.macro_meaning.specs.Step.{step}
use Rattle.macro_meaning.specs.Run.{up, steps}

module _ (mem : List ℕ) (m : MacroMachine) (requests : List ℕ) (i : ℕ) where
  pub more : i < length requests → {next : MacroMachine} {after : List ℕ}
      → next ≡ (step mem m (up (get_or requests i 0))).machine → after ≡ (step mem m (up (get_or requests i 0))).memory
      → steps mem m (drop i requests) ≡ steps after next (drop (i + 1) requests)
  unfolding steps
  more h n a = rw (drop-cons requests i 0 h, n, a, add-one i)

  pub over : i ≡ length requests → steps mem m (drop i requests) ≡ record { machine = m; memory = mem }
  unfolding steps
  over h = rw (h, drop-length)
