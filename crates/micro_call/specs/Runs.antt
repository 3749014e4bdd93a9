-- avm_run: what it answers and leaves in every lent place. All but 2 is the micro level's. Assumes nothing.
use Rattle.std.specs.Prelude.{ℕ, List, [], ◌∷◌, get_or}
use Rattle.micro_meaning.specs.declared.MicroState.{MicroState}
use Rattle.micro_meaning.specs.Run.{MicroCalled, run}
use Rattle.calls.specs.Answers.{answered}
use Rattle.calls.specs.Lending.{Found, tested_first}

-- the state words in the header's order: PSW, PC, IR, MAR, MBR, MPC, vector
abbrev pub micro_state : List ℕ → List ℕ → MicroState
micro_state registers state =
    record {
      registers = registers;
      psw = get_or state 0 0;
      pc = get_or state 1 0;
      ir = get_or state 2 0;
      mar = get_or state 3 0;
      mbr = get_or state 4 0;
      mpc = get_or state 5 0;
      ivec = get_or state 6 0;
    }

abbrev pub state_words : MicroState → List ℕ
state_words s = s.psw ∷ s.pc ∷ s.ir ∷ s.mar ∷ s.mbr ∷ s.mpc ∷ s.ivec ∷ []

abbrev pub run_found : MicroCalled → Found
run_found called =
    record {
      answer = answered called.answer.end called.answer.microcycles called.answer.steps;
      memory = called.memory;
      registers = called.answer.state.registers;
      state = state_words called.answer.state;
    }

unfoldable pub avm_run : List ℕ → List ℕ → List ℕ → List ℕ → List ℕ → Found
avm_run program mem registers state requests =
    tested_first mem registers state (run_found (run program mem (micro_state registers state) requests))
