-- One step: the interrupt step if the request is up and ie is set, else the instruction at PC (section 5.2.6, pp. 130-137). Both the
-- request and ie are looked at once, before anything changes. Assumes nothing.
use Rattle.std.specs.Prelude.{ℕ, Bool, cond, ◌&&◌, List}
use Rattle.words.specs.Fields.{opcode, dest, srca, srcb, imm}
use Rattle.words.specs.Registers.{register, ssp_reg, update_reg}
use Rattle.status.specs.declared.psw.Psw.{Psw}
use Rattle.blocks.specs.Memory.{fetch, applied}
use Rattle.macro_meaning.specs.declared.Operands.{Operands}
use Rattle.macro_meaning.specs.declared.Effect.{Effect}
use Rattle.macro_meaning.specs.Instructions.{effect, eint_key}
use Rattle.macro_meaning.specs.Machine.{MacroMachine}

-- what the instruction word names: `GetSrcA`, `GetSrcB`, `GetDest`, `GetImm` (pp. 130-136) and the registers there
abbrev pub operands : ℕ → MacroMachine → Operands
operands w m =
    record {
      a = register m.registers (srca w);
      b = register m.registers (srcb w);
      d = register m.registers (dest w);
      ssp = register m.registers ssp_reg;
      imm = imm w;
      dest = dest w;
      psw = m.psw;
      pc = m.pc;
      ivec = m.ivec;
    }

-- `Opcode`, the choice, and `Opc_Val`, its number (pp. 130-137)
unfoldable pub selected : Bool → Psw → ℕ → ℕ
selected int psw w = cond (int && psw.ie) eint_key (opcode w)

-- an effect on the state, but for its store
abbrev pub performed : Effect → MacroMachine → MacroMachine
performed e m =
    record {
      registers = update_reg e.sm e.register m.registers e.value;
      psw = e.psw;
      pc = e.pc;
      ivec = m.ivec;
    }

-- a machine with its memory
pub record Macro : Type 0 where
  pub machine : MacroMachine
  pub memory : List ℕ

-- a step by the entry of the list that is taken, and what it reads
abbrev pub step_by : ℕ → Operands → List ℕ → MacroMachine → Macro
step_by key o mem m =
    let e = effect key mem o in
    record { machine = performed e m; memory = applied e.store mem }

-- a step on an instruction word, wherever that stands
abbrev pub step_on : ℕ → List ℕ → MacroMachine → Bool → Macro
step_on w mem m int = step_by (selected int m.psw w) (operands w m) mem m

-- a step, on the word at PC
unfoldable pub step : List ℕ → MacroMachine → Bool → Macro
step mem m int = step_on (fetch mem m.pc) mem m int
