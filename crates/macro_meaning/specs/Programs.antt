-- The words in which the laws about programs are said: a state is a machine with its memory, and a program goes from state to state.
-- Assumes nothing.
use Rattle.std.specs.Prelude.{ℕ, ◌^◌, ◌<◌, ◌≡◌, Bool, true, false, not, ◌&&◌, List, eqb, length, get_or}
use Rattle.words.specs.Fields.{opcode, srca, srcb, imm}
use Rattle.words.specs.Lengths.{legal_length}
use Rattle.words.specs.Registers.{register, is_sup_reg}
use Rattle.status.specs.declared.psw.Psw.{Psw}
use Rattle.blocks.specs.Memory.{address, fetch}
use Rattle.macro_meaning.specs.Machine.{MacroMachine}
use Rattle.macro_meaning.specs.Effects.{add}
use Rattle.macro_meaning.specs.Step.{Macro, selected, step}

-- one step on, with the request up or not
abbrev pub next : Macro → Bool → Macro
next s request = step s.memory s.machine request

-- the instruction word at PC
abbrev pub instruction : Macro → ℕ
instruction s = fetch s.memory s.machine.pc

-- what register n holds
abbrev pub holds : Macro → ℕ → ℕ
holds s n = register s.machine.registers n

-- a state that a caller can lend: 32 registers, memory of a legal length, words of 32 bits everywhere, and 0 in register 0
pub record Legal (s : Macro) : Type 0 where
  pub registers : length s.machine.registers ≡ 32
  pub zero : holds s 0 ≡ 0
  pub words : (n : ℕ) → holds s n < 2 ^ 32
  pub pc : s.machine.pc < 2 ^ 32
  pub ivec : s.machine.ivec < 2 ^ 32
  pub size : legal_length (length s.memory) ≡ true
  pub memory : (place : ℕ) → get_or s.memory place 0 < 2 ^ 32

-- the entry of the list that the step takes: an opcode, or the interrupt step's
abbrev pub entry : Macro → Bool → ℕ
entry s request = selected request s.machine.psw (instruction s)

-- the step does the instruction with this opcode: no interrupt is taken, and the word at PC has the opcode
pub record Does (key : ℕ) (s : Macro) (request : Bool) : Type 0 where
  pub undisturbed : (request && s.machine.psw.ie) ≡ false
  pub chosen : opcode (instruction s) ≡ key

-- the step does an instruction that has two forms, the first opcode with R[a] and R[b] for operands and the second with R[a] and the
-- immediate; the two numbers are its operands
pub data Operates (plain immediate : ℕ) (s : Macro) (request : Bool) : ℕ → ℕ → Type 0 where
  on_registers : Does plain s request → Operates plain immediate s request (holds s (srca (instruction s))) (holds s (srcb (instruction s)))
  with_immediate : Does immediate s request → Operates plain immediate s request (holds s (srca (instruction s))) (imm (instruction s))

-- an instruction can change register n: it is not 0, and not one of the supervisor's seven in user mode
abbrev pub writable : Macro → ℕ → Bool
writable s n = not (eqb n 0) && not (is_sup_reg n && not s.machine.psw.sm)

-- where JMP and CALL go: R[a] + imm
abbrev pub target : Macro → ℕ
target s = add (holds s (srca (instruction s))) (imm (instruction s))

-- a PSW with every bit clear: user mode, interrupts off
abbrev pub clear_psw : Psw
clear_psw = record { sm = false; ie = false; v = false; n = false; c = false; z = false }

-- a machine with another PC, the rest as it is
abbrev pub moved_to : ℕ → MacroMachine → MacroMachine
moved_to pc m = record { registers = m.registers; psw = m.psw; pc = pc; ivec = m.ivec }

-- two addresses name two different words of memory
abbrev pub Apart : List ℕ → ℕ → ℕ → Type 0
Apart mem a b = address mem a ≡ address mem b → ⊥
