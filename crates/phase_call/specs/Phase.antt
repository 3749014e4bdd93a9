-- avm_phase: what it answers and leaves in every lent place. All but 2 is the phase level's. Assumes nothing.
use Rattle.std.specs.Prelude.{ℕ, not, List, [], ◌∷◌, eqb, length, get_or, Ok, Err}
use Rattle.std.specs.Result.{result_and}
use mir.Val.{bool_byte as num}
use Rattle.phase_meaning.specs.Machine.{PhaseState}
use Rattle.phase_meaning.specs.Call.{phase_call}
use Rattle.calls.specs.declared.Answer.{Answer}
use Rattle.calls.specs.Answers.{refused, answered}
use Rattle.calls.specs.Lending.{first_test}

-- a phase state from the state words, the latch words (A latch, B latch, request, acknowledge; the last two count as set when not 0), MIR
-- and the phase number
abbrev pub phase_state : List ℕ → List ℕ → List ℕ → ℕ → ℕ → PhaseState
phase_state registers state latches mir phase =
    record {
      registers = registers;
      psw = get_or state 0 0;
      pc = get_or state 1 0;
      ivec = get_or state 6 0;
      ir = get_or state 2 0;
      mar = get_or state 3 0;
      mbr = get_or state 4 0;
      mpc = get_or state 5 0;
      alatch = get_or latches 0 0;
      blatch = get_or latches 1 0;
      ireq = not (eqb (get_or latches 2 0) 0);
      iack = not (eqb (get_or latches 3 0) 0);
      mir = mir;
      phase = phase;
    }

abbrev pub phase_words : PhaseState → List ℕ
phase_words s = s.psw ∷ s.pc ∷ s.ir ∷ s.mar ∷ s.mbr ∷ s.mpc ∷ s.ivec ∷ []

abbrev pub latch_words : PhaseState → List ℕ
latch_words s = s.alatch ∷ s.blatch ∷ num s.ireq ∷ num s.iack ∷ []

-- what avm_phase answers and leaves
pub record PhaseFound : Type 0 where
  pub answer : Answer
  pub memory : List ℕ
  pub registers : List ℕ
  pub state : List ℕ
  pub latches : List ℕ
  pub mir : ℕ
  pub phase : ℕ

-- what is found after the call, place by place; after a refusal everything is as lent
abbrev pub phase_found : Answer → List ℕ → List ℕ → List ℕ → List ℕ → ℕ → ℕ → PhaseFound
phase_found answer mem registers state latches mir phase =
    record { answer = answer; memory = mem; registers = registers; state = state; latches = latches; mir = mir; phase = phase }

-- what is found after a phase that was done
abbrev pub phase_done_found : List ℕ → PhaseState → PhaseFound
phase_done_found mem s =
    phase_found (answered (Ok tt) (record { count = 0 }) (record { count = 0 })) mem s.registers (phase_words s) (latch_words s) s.mir s.phase

unfoldable pub avm_phase : List ℕ → List ℕ → List ℕ → List ℕ → List ℕ → ℕ → ℕ → ℕ → PhaseFound
avm_phase program mem registers state latches mir phase request =
    let called = phase_call program mem (phase_state registers state latches mir phase) request in
    elim (result_and (first_test (length mem) (length registers)) called.answer) [
      | Ok after ↦ phase_done_found called.memory after
      | Err refusal ↦ phase_found (refused refusal) mem registers state latches mir phase
    ]
