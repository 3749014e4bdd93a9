-- ONE RETURN IS ONE STEP. Let the published microprogram stand at fetch, in any state and with any memory. Over a request and any requests
-- after it, as many in all as `cycles` says (at most 7), its run is not refused, makes exactly one return, with its last microcycle, and
-- shows there exactly one instruction or interrupt step, the one that the first request chooses. Over fewer requests it makes no return.
-- What is requested between the two fetches does not matter: the later requests stand in no value.
use Prim.Native.Nat.{ℕ, zero, suc, ◌+◌, ◌<◌, ◌≤◌}
use native.Mathlib.Nat.{not-suc-le-zero}
use native.Mathlib.Omega.{arith}
use mathlib.Core.Path.{◌≡◌, sym, ap, ◌∙◌}
use mathlib.Core.Bool.{Bool, true, false, cond, ◌||◌}
use mathlib.Core.List.{List, [], ◌∷◌}
use lib.Dec.{eqb}
use lib.ListN.{length}
use mir.Val.{bool_byte as num}
use Rattle.std.specs.Prelude.{Ok}
use Rattle.phase_meaning.specs.Phases.{interrupt}
use Rattle.micro_meaning.specs.declared.MicroMachine.{MicroMachine}
use Rattle.micro_meaning.specs.Run.{RanOn, at_fetch, run_on}
use Rattle.macro_meaning.specs.Step.{Macro, step}
use Rattle.macro_meaning.specs.Instructions.{eint_key}
use Rattle.published.specs.Listing.{published}
use Rattle.published.specs.Clocks.{macro_machine, shows, key, own_cycles, cycles}
use Rattle.published.proofs.NeverRefused.{on, from_here, never_refused}
use Rattle.published.proofs.Due.{Due, AfterFetch, after_fetch}

-- a step takes at most 7 microcycles
pub within_7 : (k : ℕ) → cycles k ≤ 7
unfolding cycles own_cycles
within_7 k = by_key (eqb k eint_key) (eqb k 1 || eqb k 2) (eqb k 3 || eqb k 6 || eqb k 7 || eqb k 11 || eqb k 14 || eqb k 15)
  where
    by_key : (eint four three : Bool) → cond eint 5 (suc (suc (suc (cond four 4 (cond three 3 1))))) ≤ 7
    by_key true four three = omega arith
    by_key false true three = omega arith
    by_key false false true = omega arith
    by_key false false false = omega arith

-- ---- a run that a return is due in
record Arrived (m : Macro) (returns : ℕ) (r : RanOn) : Type 0 where
  back : at_fetch r.ran.state ≡ true
  shown : shows r.memory r.ran.state ≡ m
  steps : r.ran.steps.count ≡ returns + 1

arrives : (c : ℕ) (mem : List ℕ) (s : MicroMachine) (m : Macro) → Due c mem s m → (requests : List ℕ) → length requests ≡ c → (done returns : ℕ)
    → Arrived m returns (from_here mem s done returns requests)
unfolding run_on
arrives zero mem s m d [] h done returns = record { back = d.0; shown = d.1; steps = ap (λ (b : Bool). returns + num b) d.0 }
arrives zero mem s m d (request ∷ rest) h done returns = absurd (omega (arith, h))
arrives (suc c) mem s m d [] h done returns = absurd (omega (arith, h))
arrives (suc c) mem s m d (request ∷ rest) h done returns =
    let there = arrives c _ _ m (d.1 request) rest (omega (arith, h)) (done + 1) (returns + num (at_fetch s)) in
    let same = on mem s done (returns + num (at_fetch s)) request rest in
    let none : num (at_fetch s) ≡ 0 = ap num d.0 in
    record {
      back = ap (λ (r : RanOn). at_fetch r.ran.state) same ∙ there.back;
      shown = ap (λ (r : RanOn). shows r.memory r.ran.state) same ∙ there.shown;
      steps = ap (λ (r : RanOn). r.ran.steps.count) same ∙ there.steps ∙ omega (arith, none);
    }

waits : (c : ℕ) (mem : List ℕ) (s : MicroMachine) (m : Macro) → Due c mem s m → (requests : List ℕ) → length requests < c → (done returns : ℕ)
    → (from_here mem s done returns requests).ran.steps.count ≡ returns
unfolding run_on
waits zero mem s m d requests h done returns = absurd (not-suc-le-zero h)
waits (suc c) mem s m d [] h done returns = let none : num (at_fetch s) ≡ 0 = ap num d.0 in omega (arith, none)
waits (suc c) mem s m d (request ∷ rest) h done returns =
    let none : num (at_fetch s) ≡ 0 = ap num d.0 in
    ap (λ (r : RanOn). r.ran.steps.count) (on mem s done (returns + num (at_fetch s)) request rest)
    ∙ waits c _ _ m (d.1 request) rest (omega (arith, h)) (done + 1) (returns + num (at_fetch s)) ∙ omega (arith, none)

-- ---- the theorem
module _ (mem : List ℕ) (s : MicroMachine) (at_first : at_fetch s ≡ true) (request : ℕ) (rest : List ℕ) where
  abbrev pub whole : RanOn
  whole = run_on published mem s 0 0 (request ∷ rest)

  pub record OneStep : Type 0 where
    pub not_refused : whole.ran.end ≡ Ok tt
    pub microcycles : whole.ran.microcycles.count ≡ cycles (key mem s request)
    pub at_most_7 : whole.ran.microcycles.count ≤ 7
    pub one_return : whole.ran.steps.count ≡ 1
    pub at_its_end : at_fetch whole.ran.state ≡ true
    pub one_step : shows whole.memory whole.ran.state ≡ step mem (macro_machine s) (interrupt request)

  behind : AfterFetch mem s request
  behind = after_fetch mem s at_first request

  pub one_return_is_one_step : suc (length rest) ≡ cycles (key mem s request) → OneStep
  one_return_is_one_step h =
      let same = on mem s 0 0 request rest in
      let there = arrives behind.more _ _ _ behind.due rest (omega (arith, h, behind.counts)) 1 0 in
      let refused = never_refused (request ∷ rest) mem s 0 0 in
      record {
        not_refused = refused.ends;
        microcycles = refused.microcycles ∙ omega (arith, h);
        at_most_7 = omega (arith, refused.microcycles, h, within_7 (key mem s request));
        one_return = ap (λ (r : RanOn). r.ran.steps.count) same ∙ there.steps;
        at_its_end = ap (λ (r : RanOn). at_fetch r.ran.state) same ∙ there.back;
        one_step = ap (λ (r : RanOn). shows r.memory r.ran.state) same ∙ there.shown;
      }

  pub no_return_before : suc (length rest) < cycles (key mem s request) → whole.ran.steps.count ≡ 0
  no_return_before h =
      ap (λ (r : RanOn). r.ran.steps.count) (on mem s 0 0 request rest)
      ∙ waits behind.more _ _ _ behind.due rest (omega (arith, h, behind.counts)) 1 0

-- What is requested between two fetches does not matter: over other requests after the first, the return shows the same.
pub between_fetches_nothing_is_heard : (mem : List ℕ) (s : MicroMachine) (at_first : at_fetch s ≡ true) (request : ℕ) (rest other : List ℕ)
    → suc (length rest) ≡ cycles (key mem s request) → suc (length other) ≡ cycles (key mem s request)
    → (let r = whole mem s at_first request rest in shows r.memory r.ran.state)
    ≡ (let r = whole mem s at_first request other in shows r.memory r.ran.state)
between_fetches_nothing_is_heard mem s at_first request rest other h k =
    (one_return_is_one_step mem s at_first request rest h).one_step ∙ sym (one_return_is_one_step mem s at_first request other k).one_step
