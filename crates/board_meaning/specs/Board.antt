-- The bench board: the micro level's state as one record, lent to a call and advanced where it stands, by one microcycle or by one
-- instruction, which is one macro step and keeps IR, MAR, MBR and MPC (the scope, on the machine that ships). Assumes nothing.
use Rattle.std.specs.Prelude.{ℕ, List, [], ◌∷◌}
use Rattle.calls.specs.declared.Answer.{Answer}
use Rattle.calls.specs.Answers.{answered}
use Rattle.micro_meaning.specs.declared.MicroState.{MicroState}
use Rattle.micro_meaning.specs.Run as micro
use Rattle.macro_meaning.specs.Machine.{MacroState}
use Rattle.macro_meaning.specs.Run as macro
use Rattle.macro_call.specs.Steps.{steps_answered}
use Rattle.board_meaning.specs.declared.Moved.{Moved}

-- what a call answers, and what it leaves
pub record BoardFound : Type 0 where
  pub answer : Answer
  pub board : MicroState
  pub memory : List ℕ

-- what is found after the call, place by place
abbrev pub board_found : Answer → MicroState → List ℕ → BoardFound
board_found answer board mem = record { answer = answer; board = board; memory = mem }

-- .. and after a call that hands the board back by value
abbrev pub moved_found : Moved → List ℕ → BoardFound
moved_found m mem = board_found m.answer m.board mem

-- a call of the micro level, answered as every C call is
abbrev pub microcycle_found : micro.MicroCalled → BoardFound
microcycle_found called =
    record {
      answer = answered called.answer.end called.answer.microcycles called.answer.steps;
      board = called.answer.state;
      memory = called.memory;
    }

-- one microcycle: a run over one request byte
unfoldable pub board_microcycle : MicroState → List ℕ → List ℕ → ℕ → BoardFound
board_microcycle board program mem request = microcycle_found (micro.run program mem board (request ∷ []))

-- what the macro level sees of a board
abbrev pub macro_seen : MicroState → MacroState
macro_seen board = record { registers = board.registers; psw = board.psw; pc = board.pc; ivec = board.ivec }

-- .. and back: IR, MAR, MBR and MPC are kept, whatever they are
abbrev pub shown_on : MicroState → MacroState → MicroState
shown_on board s =
    record {
      registers = s.registers;
      psw = s.psw;
      pc = s.pc;
      ir = board.ir;
      mar = board.mar;
      mbr = board.mbr;
      mpc = board.mpc;
      ivec = s.ivec;
    }

-- a call of the macro level on what it sees of the board; it counts no microcycles
abbrev pub instruction_found : MicroState → macro.MacroCalled → BoardFound
instruction_found board called =
    record {
      answer = steps_answered called.answer;
      board = shown_on board called.state;
      memory = called.memory;
    }

-- one instruction: a step over one request byte
unfoldable pub board_instruction : MicroState → List ℕ → ℕ → BoardFound
board_instruction board mem request = instruction_found board (macro.run mem (macro_seen board) (request ∷ []))
