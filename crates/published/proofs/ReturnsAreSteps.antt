-- RETURNS ARE STEPS, over any list of requests and so for any count of returns. The published microprogram begins at fetch, in any state and
-- with any memory. Its run is never refused. To look at one of its returns, take the requests up to it: the run then ends at fetch, and what
-- it shows is what the macro level shows after a step for each request that a fetch microcycle saw, in their order, and for no other. The
-- run has counted as many returns as there are such steps; a run that ends between two fetches has one step still under way.
use Prim.Native.Nat.{ℕ, zero, suc, ◌+◌}
use native.Mathlib.Nat.{zero-add}
use native.Mathlib.Omega.{arith}
use mathlib.Core.Path.{◌≡◌, refl, sym, ap, subst, ◌∙◌}
use mathlib.Core.Bool.{Bool, true, false, not, false≢true}
use mathlib.Core.List.{List, [], ◌∷◌}
use lib.ListN.{length}
use mir.Val.{bool_byte as num}
use Rattle.std.specs.Prelude.{Ok}
use Rattle.blocks.specs.Memory.{applied}
use Rattle.phase_meaning.specs.Phases.{interrupt}
use Rattle.micro_meaning.specs.declared.MicroMachine.{MicroMachine}
use Rattle.micro_meaning.specs.Microcycle.{microcycle, micro_store}
use Rattle.micro_meaning.specs.Run.{RanOn, at_fetch, run_on}
use Rattle.micro_meaning.proofs.RunJoins.{counted, counts_added}
use Rattle.macro_meaning.specs.Step.{Macro, step}
use Rattle.macro_meaning.specs.Run.{up, steps}
use Rattle.published.specs.Listing.{published}
use Rattle.published.specs.Clocks.{macro_machine, shows, line, steps_of, heard}
use Rattle.published.proofs.NeverRefused.{on, from_here, never_refused}
use Rattle.published.proofs.Due.{Due, after_fetch}

-- a byte made of a line is that line
line_up : (b : Bool) → up (num b) ≡ b
line_up true = refl
line_up false = refl

-- what a microcycle hears, at fetch and between
module _ (mem : List ℕ) (s : MicroMachine) (request : ℕ) (rest : List ℕ) where
  abbrev later : List ℕ
  later = heard published (applied (micro_store published s) mem) (microcycle published mem s request) rest

  pub hears : at_fetch s ≡ true → heard published mem s (request ∷ rest) ≡ line request ∷ later
  unfolding heard
  hears q = rw q

  hears_nothing : at_fetch s ≡ false → heard published mem s (request ∷ rest) ≡ later
  unfolding heard
  hears_nothing q = rw q

  -- the step that is heard, then those that follow
  stepped : (m : Macro) → shows mem s ≡ m → (at : at_fetch s ≡ true)
      → steps_of (step mem (macro_machine s) (interrupt request)) later ≡ steps_of m (heard published mem s (request ∷ rest))
  unfolding steps
  stepped m e q =
      ap (λ (b : Bool). steps_of (step mem (macro_machine s) b) later) (sym (line_up (interrupt request)))
      ∙ ap (λ (x : Macro). steps_of x (line request ∷ later)) e ∙ ap (steps_of m) (sym (hears q))

-- where a return is due that shows m, over the requests that follow
pub record Told (mem : List ℕ) (s : MicroMachine) (m : Macro) (returns : ℕ) (requests : List ℕ) (r : RanOn) : Type 0 where
  pub shown : at_fetch r.ran.state ≡ true → shows r.memory r.ran.state ≡ steps_of m (heard published mem s requests)
  pub counts : r.ran.steps.count + num (not (at_fetch r.ran.state)) ≡ returns + suc (length (heard published mem s requests))

told_by : {mem : List ℕ} {s : MicroMachine} {m : Macro} {returns : ℕ} {requests : List ℕ} {r r' : RanOn} → r ≡ r'
    → Told mem s m returns requests r' → Told mem s m returns requests r
told_by {mem} {s} {m} {returns} {requests} e t = subst (Told mem s m returns requests) (sym e) t

pub told : (requests : List ℕ) (c : ℕ) (mem : List ℕ) (s : MicroMachine) (m : Macro) → Due c mem s m → (done returns : ℕ)
    → Told mem s m returns requests (from_here mem s done returns requests)
unfolding run_on heard steps
told [] zero mem s m d done returns =
    record { shown = λ h. d.1; counts = ap (λ (b : Bool). returns + num b + num (not b)) d.0 ∙ omega arith }
told [] (suc c) mem s m d done returns =
    record {
      shown = λ h. absurd (false≢true (sym d.0 ∙ h));
      counts = ap (λ (b : Bool). returns + num b + num (not b)) d.0 ∙ omega arith;
    }
told (request ∷ rest) zero mem s m d done returns =
    let behind = after_fetch mem s d.0 request in
    let there = told rest behind.more _ _ _ behind.due (done + 1) (returns + num (at_fetch s)) in
    let one : num (at_fetch s) ≡ 1 = ap num d.0 in
    let more : length (heard published mem s (request ∷ rest)) ≡ suc (length (later mem s request rest)) = ap length (hears mem s request rest d.0) in
    told_by (on mem s done (returns + num (at_fetch s)) request rest)
    (record {
      shown = λ h. there.shown h ∙ stepped mem s request rest m d.1 d.0;
      counts = there.counts ∙ omega (arith, one, more);
    })
told (request ∷ rest) (suc c) mem s m d done returns =
    let there = told rest c _ _ m (d.1 request) (done + 1) (returns + num (at_fetch s)) in
    let none : num (at_fetch s) ≡ 0 = ap num d.0 in
    let same = hears_nothing mem s request rest d.0 in
    told_by (on mem s done (returns + num (at_fetch s)) request rest)
    (record {
      shown = λ h. there.shown h ∙ ap (steps_of m) (sym same);
      counts = there.counts ∙ omega (arith, none, ap length same);
    })

-- ---- the theorem
module _ (mem : List ℕ) (s : MicroMachine) (at_first : at_fetch s ≡ true) (requests : List ℕ) where
  abbrev pub whole : RanOn
  whole = run_on published mem s 0 0 requests

  pub record Steps : Type 0 where
    pub not_refused : whole.ran.end ≡ Ok tt
    pub microcycles : whole.ran.microcycles.count ≡ length requests
    pub each_return : at_fetch whole.ran.state ≡ true
        → shows whole.memory whole.ran.state ≡ steps_of (shows mem s) (heard published mem s requests)
    pub returns : whole.ran.steps.count + num (not (at_fetch whole.ran.state)) ≡ length (heard published mem s requests)

  -- the same run, with a return counted that was there before
  abbrev after_one : RanOn
  after_one = from_here mem s 0 0 requests

  after_one_is : after_one ≡ counted 0 1 whole
  after_one_is = ap (λ (b : Bool). run_on published mem s 0 (0 + num b) requests) at_first ∙ counts_added published requests mem s 0 1 0 0

  pub returns_are_steps : Steps
  returns_are_steps =
      let refused = never_refused requests mem s 0 0 in
      let here = told_by (sym after_one_is) (told requests 0 mem s (shows mem s) (at_first, refl) 0 0) in
      record {
        not_refused = refused.ends;
        microcycles = refused.microcycles ∙ zero-add (length requests);
        each_return = here.shown;
        returns = omega (arith, here.counts);
      }
