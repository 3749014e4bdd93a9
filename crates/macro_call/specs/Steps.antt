-- avm_steps: what it answers and leaves in every lent place. All but 2 is the macro level's. Assumes nothing.
use Rattle.std.specs.Prelude.{ℕ, List, [], ◌∷◌, get_or, Result, Ok, Err}
use Rattle.answers.specs.declared.Steps.{Steps}
use Rattle.answers.specs.declared.Refusal.{Refusal}
use Rattle.macro_meaning.specs.Machine.{MacroState}
use Rattle.macro_meaning.specs.Run.{MacroCalled, run}
use Rattle.calls.specs.declared.Answer.{Answer}
use Rattle.calls.specs.Answers.{answered, refused}
use Rattle.calls.specs.Lending.{Found, tested_first}

-- PSW, PC and vector are taken from the state words
abbrev pub macro_state : List ℕ → List ℕ → MacroState
macro_state registers state = record { registers = registers; psw = get_or state 0 0; pc = get_or state 1 0; ivec = get_or state 6 0 }

-- .. and IR, MAR, MBR and MPC are kept, whatever they are
abbrev pub macro_words : MacroState → List ℕ → List ℕ
macro_words s state = s.psw ∷ s.pc ∷ get_or state 2 0 ∷ get_or state 3 0 ∷ get_or state 4 0 ∷ get_or state 5 0 ∷ s.ivec ∷ []

-- steps alone, where the run was not refused
abbrev pub steps_answered : Result Steps Refusal → Answer
steps_answered (Ok steps) = answered (Ok tt) (record { count = 0 }) steps
steps_answered (Err refusal) = refused refusal

abbrev pub steps_found : MacroCalled → List ℕ → Found
steps_found called state =
    record {
      answer = steps_answered called.answer;
      memory = called.memory;
      registers = called.state.registers;
      state = macro_words called.state state;
    }

unfoldable pub avm_steps : List ℕ → List ℕ → List ℕ → List ℕ → Found
avm_steps mem registers state requests =
    tested_first mem registers state (steps_found (run mem (macro_state registers state) requests) state)
