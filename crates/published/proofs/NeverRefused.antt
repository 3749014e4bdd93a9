-- A run of the published microprogram is never refused 8: it does a microcycle for each request.
use Prim.Native.Nat.{ℕ, ◌+◌}
use native.Mathlib.Nat.{add-zero}
use native.Mathlib.Omega.{arith}
use mathlib.Core.Path.{◌≡◌, refl, sym, ap, ◌∙◌}
use mathlib.Core.List.{List, [], ◌∷◌}
use lib.ListN.{length}
use mir.Val.{bool_byte as num}
use Rattle.std.specs.Prelude.{Ok}
use Rattle.blocks.specs.Memory.{applied}
use Rattle.micro_meaning.specs.declared.MicroMachine.{MicroMachine}
use Rattle.micro_meaning.specs.Microcycle.{microcycle, micro_store}
use Rattle.micro_meaning.specs.Run.{RanOn, at_fetch, run_on}
use Rattle.micro_meaning.proofs.RunInduction.{goes_on}
use Rattle.published.specs.Listing.{published}
use Rattle.published.proofs.NeverLeaves.{never_leaves}

-- one request more
pub on : (mem : List ℕ) (s : MicroMachine) (done returns request : ℕ) (rest : List ℕ)
    → run_on published mem s done returns (request ∷ rest)
    ≡ run_on published (applied (micro_store published s) mem) (microcycle published mem s request) (done + 1)
    (returns + num (at_fetch (microcycle published mem s request))) rest
on mem s done returns request rest = goes_on published mem s done returns request rest (never_leaves s request)

-- a run behind a microcycle that led to s: that one counts as a return too where s is at fetch
abbrev pub from_here : List ℕ → MicroMachine → ℕ → ℕ → List ℕ → RanOn
from_here mem s done returns requests = run_on published mem s done (returns + num (at_fetch s)) requests

pub record Whole (done : ℕ) (requests : List ℕ) (r : RanOn) : Type 0 where
  pub ends : r.ran.end ≡ Ok tt
  pub microcycles : r.ran.microcycles.count ≡ done + length requests

pub never_refused : (requests mem : List ℕ) (s : MicroMachine) (done returns : ℕ) → Whole done requests (run_on published mem s done returns requests)
unfolding run_on
never_refused [] mem s done returns = record { ends = refl; microcycles = sym (add-zero done) }
never_refused (request ∷ rest) mem s done returns =
    let next = microcycle published mem s request in
    let whole = never_refused rest (applied (micro_store published s) mem) next (done + 1) (returns + num (at_fetch next)) in
    let same = on mem s done returns request rest in
    record {
      ends = ap (λ (r : RanOn). r.ran.end) same ∙ whole.ends;
      microcycles = ap (λ (r : RanOn). r.ran.microcycles.count) same ∙ (omega (arith, whole.microcycles));
    }
