-- FROM PHASES TO STEPS, in one statement. A machine before phase one and at fetch, in any state and with any memory, does four phases for each
-- of any requests, with the published microprogram. No phase is ever refused 8. The machine and memory that come of it are those of the micro
-- level's run over the same requests, about which all of `ReturnsAreSteps` holds; and at fetch they show the macro level's steps, one for each
-- request that a fetch microcycle saw.
use Prim.Native.Nat.{ℕ, ◌+◌, ◌<◌}
use mathlib.Core.Path.{◌≡◌, refl, sym, ap, subst, ◌∙◌}
use mathlib.Core.Bool.{Bool, true, false, ◌&&◌}
use mathlib.Core.List.{List, [], ◌∷◌}
use lib.Dec.{eqb, leb}
use lib.ListN.{length}
use mir.Val.{bool_byte as num}
use borrow.Author.Tests.{lt-leb}
use Rattle.words.proofs.FieldBounds.{field_lt}
use Rattle.control_store.proofs.SixBits.{next_lt}
use Rattle.std.specs.Prelude.{Option}
use Rattle.blocks.specs.declared.memory.Store.{Store}
use Rattle.blocks.specs.Memory.{applied}
use Rattle.datapath.specs.Results.{new_mpc}
use Rattle.phase_meaning.specs.Machine.{PhaseMachine}
use Rattle.phase_meaning.specs.Phases.{next_mpc}
use Rattle.phase_meaning.specs.Tests.{last_phase}
use Rattle.phase_meaning.specs.Call.{leaves}
use Rattle.micro_meaning.specs.Machine.{micro_seen}
use Rattle.micro_meaning.specs.Microcycle.{microcycle, micro_store}
use Rattle.micro_meaning.proofs.FourPhases.{first, second, third, fourth, done_alike, stored_alike, begins_again, nothing_stored_earlier}
use Rattle.micro_meaning.specs.Run.{RanOn, at_fetch, run_on}
use Rattle.published.specs.Listing.{published}
use Rattle.published.specs.Clocks.{shows, steps_of, heard, Phased, phased, phases}
use Rattle.published.proofs.NeverLeaves.{sixty_four}
use Rattle.published.proofs.NeverRefused.{on}
use Rattle.published.proofs.ReturnsAreSteps.{Steps, returns_are_steps}

pub no_phase_leaves : (p : PhaseMachine) → leaves (length published) p ≡ false
unfolding leaves next_mpc new_mpc
no_phase_leaves p = by_phase (eqb p.phase last_phase)
  where
    inside : next_mpc p < length published
    inside = subst (λ (n : ℕ). next_mpc p < n) (sym sixty_four) (next_lt _ _ _ _ _ _ _ (field_lt p.mir 0 6))

    by_phase : (b : Bool) → (b && leb (length published) (next_mpc p)) ≡ false
    by_phase true = lt-leb (length published) (next_mpc p) inside
    by_phase false = refl

-- ---- four phases of a request
module _ (mem : List ℕ) (p : PhaseMachine) (begins : p.phase ≡ 0) (request : ℕ) where
  abbrev p₁ : PhaseMachine
  p₁ = first published mem p begins request request request request

  abbrev p₂ : PhaseMachine
  p₂ = second published mem p begins request request request request

  abbrev p₃ : PhaseMachine
  p₃ = third published mem p begins request request request request

  abbrev p₄ : PhaseMachine
  p₄ = fourth published mem p begins request request request request

  abbrev beside : PhaseMachine → Phased
  beside q = record { machine = q; memory = mem }

  abbrev after : PhaseMachine → Option Store → Phased
  after q st = record { machine = q; memory = applied st mem }

  abbrev on_by_one : Phased → Phased
  on_by_one x = phased published x request

  -- the memory is the same until the fourth
  three : on_by_one (on_by_one (on_by_one (beside p))) ≡ beside p₃
  three =
      let earlier = nothing_stored_earlier published mem p begins request request request request in
      ap (λ (x : Phased). on_by_one (on_by_one x)) (ap (after p₁) earlier.0) ∙ ap on_by_one (ap (after p₂) earlier.1) ∙ ap (after p₃) earlier.2

  four : on_by_one (on_by_one (on_by_one (on_by_one (beside p)))) ≡ after p₄ (micro_store published (micro_seen p))
  four = ap on_by_one three ∙ ap (after p₄) (stored_alike published mem p begins request request request request)

-- ---- phases are microcycles
record Alike (x : Phased) (r : RanOn) : Type 0 where
  machine : micro_seen x.machine ≡ r.ran.state
  memory : x.memory ≡ r.memory

alike : (requests mem : List ℕ) (p : PhaseMachine) → p.phase ≡ 0 → (done returns : ℕ)
    → Alike (phases published (record { machine = p; memory = mem }) requests) (run_on published mem (micro_seen p) done returns requests)
unfolding phases run_on
alike [] mem p begins done returns = record { machine = refl; memory = refl }
alike (request ∷ rest) mem p begins done returns =
    let next = microcycle published mem (micro_seen p) request in
    let q = fourth published mem p begins request request request request in
    let mem' = applied (micro_store published (micro_seen p)) mem in
    let same : micro_seen q ≡ next = done_alike published mem p begins request request request request in
    let there = alike rest mem' q (begins_again published mem p begins request request request request) (done + 1) (returns + num (at_fetch next)) in
    let phased_on = ap (λ (x : Phased). phases published x rest) (four mem p begins request) in
    let run_so = ap (λ s. run_on published mem' s (done + 1) (returns + num (at_fetch next)) rest) same ∙ sym (on mem (micro_seen p) done returns request rest) in
    record {
      machine = ap (λ (x : Phased). micro_seen x.machine) phased_on ∙ there.machine ∙ ap (λ (r : RanOn). r.ran.state) run_so;
      memory = ap (λ (x : Phased). x.memory) phased_on ∙ there.memory ∙ ap (λ (r : RanOn). r.memory) run_so;
    }

-- ---- the theorem
module _ (mem : List ℕ) (p : PhaseMachine) (begins : p.phase ≡ 0) (at_first : at_fetch (micro_seen p) ≡ true) (requests : List ℕ) where
  abbrev pub ended : Phased
  ended = phases published (record { machine = p; memory = mem }) requests

  abbrev pub whole : RanOn
  whole = run_on published mem (micro_seen p) 0 0 requests

  pub record PhasesToSteps : Type 0 where
    pub no_phase_refused : (q : PhaseMachine) → leaves (length published) q ≡ false
    pub same_machine : micro_seen ended.machine ≡ whole.ran.state
    pub same_memory : ended.memory ≡ whole.memory
    pub run : Steps mem (micro_seen p) at_first requests
    pub steps : at_fetch (micro_seen ended.machine) ≡ true
        → shows ended.memory (micro_seen ended.machine) ≡ steps_of (shows mem (micro_seen p)) (heard published mem (micro_seen p) requests)

  pub phases_make_steps : PhasesToSteps
  phases_make_steps =
      let same = alike requests mem p begins 0 0 in
      let run = returns_are_steps mem (micro_seen p) at_first requests in
      let shown : shows ended.memory (micro_seen ended.machine) ≡ shows whole.memory whole.ran.state =
      ap (λ (m : List ℕ). shows m (micro_seen ended.machine)) same.memory ∙ ap (shows whole.memory) same.machine in
      record {
        no_phase_refused = no_phase_leaves;
        same_machine = same.machine;
        same_memory = same.memory;
        run = run;
        steps = λ h. shown ∙ run.each_return (sym (ap at_fetch same.machine) ∙ h);
      }
