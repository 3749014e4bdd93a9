-- The call of a phase case by case: refused before the phase, and done.
use Prim.Native.Nat.{ℕ}
use mathlib.Core.Path.{◌≡◌, ap}
use mathlib.Core.List.{List}
use lib.ListN.{length}
use Rattle.std.specs.Prelude.{Ok, Err}
use Rattle.std.specs.Result.{is_ok}
use Rattle.answers.specs.declared.Refusal.{Refusal}
use Rattle.calls.specs.Answers.{refused, answered}
use Rattle.calls.specs.Lending.{first_test, registers_in, registers_out}
use Rattle.calls.proofs.Fitting.{registers_in_whole, registers_out_whole}
use Rattle.phase_meaning.specs.Machine.{PhaseState}
use Rattle.phase_meaning.specs.Call.{phase_call}
use Rattle.phase_meaning.proofs.PhaseCalls.{as_lent}
use Rattle.phase_call.specs.Phase.{phase_state, phase_words, latch_words, phase_found, avm_phase}

module _ (program mem registers state latches : List ℕ) (mir phase request : ℕ) where
  -- 1 and 2 leave all as lent
  pub call_refused : (refusal : Refusal) → first_test (length mem) (length registers) ≡ Err refusal
      → phase_found (refused refusal) mem registers state latches mir phase ≡ avm_phase program mem registers state latches mir phase request
  unfolding avm_phase
  call_refused refusal e = rw (e, avm_phase)

  module _ (passed : first_test (length mem) (length registers) ≡ Ok tt) where
    abbrev lent : PhaseState
    lent = phase_state (registers_in registers) state latches mir phase

    -- all 32 registers were copied in
    whole : registers_in registers ≡ registers
    whole = registers_in_whole (length mem) registers passed

    -- the library's call left memory as lent
    pub phase_refused : (refusal : Refusal) → (phase_call program mem lent request).answer ≡ Err refusal
        → phase_found (refused refusal) (phase_call program mem lent request).memory registers state latches mir phase
        ≡ avm_phase program mem registers state latches mir phase request
    unfolding avm_phase
    phase_refused refusal e = rw ((as_lent program mem lent request (ap is_ok e)).0, passed, avm_phase, rw whole at e)

    pub phase_went : (after : PhaseState) → (phase_call program mem lent request).answer ≡ Ok after
        → phase_found (answered (Ok tt) (record { count = 0 }) (record { count = 0 })) (phase_call program mem lent request).memory
        (registers_out after.registers registers) (phase_words after) (latch_words after) after.mir after.phase
        ≡ avm_phase program mem registers state latches mir phase request
    unfolding avm_phase
    phase_went after e = rw (registers_out_whole (length mem) registers passed after.registers, whole, passed, avm_phase, rw whole at e)
