-- A run at the requests from the i-th on: one microcycle more, a refusal, the end.
use Prim.Native.Nat.{ℕ, ◌+◌, ◌<◌}
use native.Mathlib.Numerals.{add-one}
use mathlib.Core.Path.{◌≡◌}
use mathlib.Core.Bool.{true, false}
use mathlib.Core.List.{List}
use lib.ListN.{length, get_or, drop}
use lib.Seq.{drop-cons, drop-length}
use mir.Val.{bool_byte as num}
use Rattle.std.specs.Prelude.{Ok, Err}
use Rattle.answers.specs.declared.Refusal.TheVariants.{NextAddress}
use Rattle.blocks.specs.Memory.{applied}
use Rattle.micro_meaning.specs.declared.MicroMachine.{MicroMachine}
use Rattle.micro_meaning.specs.Microcycle.{microcycle, micro_store, leaves}
use Rattle.micro_meaning.specs.Run.{at_fetch, ended, run_on}

module _ (program mem : List ℕ) (s : MicroMachine) (done returns : ℕ) (requests : List ℕ) (i : ℕ) (h : i < length requests) where
  pub more : leaves program s (get_or requests i 0) ≡ false
      → run_on program mem s done returns (drop i requests)
      ≡ (let next = microcycle program mem s (get_or requests i 0) in
      run_on program (applied (micro_store program s) mem) next (done + 1) (returns + num (at_fetch next)) (drop (i + 1) requests))
  unfolding run_on
  more stays = rw (drop-cons requests i 0 h, stays, add-one i)

  pub stop : leaves program s (get_or requests i 0) ≡ true → run_on program mem s done returns (drop i requests) ≡ ended (Err NextAddress) mem s done returns
  unfolding run_on
  stop goes = rw (drop-cons requests i 0 h, goes)

pub over : (program mem : List ℕ) (s : MicroMachine) (returns : ℕ) (requests : List ℕ) (i : ℕ) → i ≡ length requests
    → run_on program mem s i returns (drop i requests) ≡ ended (Ok tt) mem s (length requests) returns
unfolding run_on
over program mem s returns requests i h = rw (h, drop-length)
