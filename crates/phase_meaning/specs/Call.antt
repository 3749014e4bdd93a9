-- The call that does one phase: everything lent is tested, then the phase is done; a next address outside is refused (number 8) with
-- everything as lent. Assumes nothing.
use Rattle.std.specs.Prelude.{ℕ, Bool, cond, ◌&&◌, List, eqb, leb, length, Option, None, Result, Ok, Err}
use Rattle.answers.specs.declared.Refusal.{Refusal}
use Rattle.answers.specs.declared.Refusal.TheVariants.{NextAddress}
use Rattle.blocks.specs.declared.memory.Store.{Store}
use Rattle.blocks.specs.Memory.{applied}
use Rattle.phase_meaning.specs.Machine.{PhaseState, PhaseMachine, phase_unpacked, phase_packed}
use Rattle.phase_meaning.specs.Phases.{phase_one, phase_two, phase_three, phase_four, next_mpc, phase_store}
use Rattle.phase_meaning.specs.Tests.{phase_test, last_phase}

-- the phase that is next, by its number (GetPhaseClock and the list, pp. 114-118)
unfoldable pub phase_done : List ℕ → List ℕ → PhaseMachine → ℕ → PhaseMachine
phase_done program mem s request =
    cond (eqb s.phase 0) (phase_one program s request)
    (cond (eqb s.phase 1) (phase_two s)
    (cond (eqb s.phase 2) (phase_three s)
    (phase_four mem s)))

-- only phase four stores
unfoldable pub stores : PhaseMachine → Option Store
stores s = cond (eqb s.phase last_phase) (phase_store s) None

-- phase four would give a next address outside a microprogram of so many words
unfoldable pub leaves : ℕ → PhaseMachine → Bool
leaves words s = eqb s.phase last_phase && leb words (next_mpc s)

-- what a call answers, and memory after it
pub record PhaseCalled : Type 0 where
  pub answer : Result PhaseState Refusal
  pub memory : List ℕ

abbrev pub phase_refused : Refusal → List ℕ → PhaseCalled
phase_refused refusal mem = record { answer = Err refusal; memory = mem }

-- the state that a caller has after the call: the answer's, and after a refusal its own
abbrev pub state_after : PhaseState → Result PhaseState Refusal → PhaseState
state_after s (Ok next) = next
state_after s (Err _) = s

unfoldable pub phase_call : List ℕ → List ℕ → PhaseState → ℕ → PhaseCalled
phase_call program mem s request =
    let machine = phase_unpacked s in
    elim (phase_test (length mem) program s request) [
      | Ok _ ↦
          cond (leaves (length program) machine)
          (phase_refused NextAddress mem)
          (record { answer = Ok (phase_packed (phase_done program mem machine request)); memory = applied (stores machine) mem })
      | Err refusal ↦ phase_refused refusal mem
    ]
