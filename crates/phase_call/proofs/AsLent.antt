-- A call of avm_phase that is refused leaves everything as lent: memory, registers, the state words with the PSW's other bits, the latch
-- words, MIR and the phase number.
use Prim.Native.Nat.{ℕ}
use mathlib.Core.Path.{◌≡◌, refl}
use mathlib.Core.List.{List}
use lib.ListN.{length}
use Rattle.std.specs.Prelude.{Result, Ok, Err}
use Rattle.std.specs.Result.{result_and}
use Rattle.answers.specs.declared.Refusal.{Refusal}
use Rattle.phase_meaning.specs.Machine.{PhaseState}
use Rattle.phase_meaning.specs.Call.{phase_call}
use Rattle.calls.specs.Answers.{refused}
use Rattle.calls.specs.Lending.{first_test}
use Rattle.phase_call.specs.Phase.{PhaseFound, phase_state, phase_found, phase_done_found, avm_phase}

module _ (program mem registers state latches : List ℕ) (mir phase request : ℕ) where
  pub record AsLent (call : PhaseFound) : Type 0 where
    pub memory : call.memory ≡ mem
    pub registers_kept : call.registers ≡ registers
    pub state_kept : call.state ≡ state
    pub latches_kept : call.latches ≡ latches
    pub mir_kept : call.mir ≡ mir
    pub phase_kept : call.phase ≡ phase

  -- by the outcome of all tests and the phase, with memory after the phase level's call
  abbrev by_outcome : List ℕ → Result PhaseState Refusal → PhaseFound
  by_outcome after outcome =
      elim outcome [
        | Ok next ↦ phase_done_found after next
        | Err refusal ↦ phase_found (refused refusal) mem registers state latches mir phase
      ]

  as_lent : (after : List ℕ) (outcome : Result PhaseState Refusal) → ((by_outcome after outcome).answer.number ≡ 0 → ⊥) → AsLent (by_outcome after outcome)
  as_lent after (Ok _) refusal = absurd (refusal refl)
  as_lent after (Err _) refusal =
      record { memory = refl; registers_kept = refl; state_kept = refl; latches_kept = refl; mir_kept = refl; phase_kept = refl }

  pub phase_as_lent : ((avm_phase program mem registers state latches mir phase request).answer.number ≡ 0 → ⊥)
      → AsLent (avm_phase program mem registers state latches mir phase request)
  unfolding avm_phase
  phase_as_lent refusal =
      let called = phase_call program mem (phase_state registers state latches mir phase) request in
      as_lent called.memory (result_and (first_test (length mem) (length registers)) called.answer) refusal
