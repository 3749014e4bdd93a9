-- What CALL, RTN, GPSW, INT and the interrupt step leave, as the laws about them say it: the words that they move, and the state that a
-- handler finds.
use Prim.Native.Nat.{ℕ}
use mathlib.Core.Bool.{true, false}
use lib.Bits.{bit_and}
use lib.ListN.{set}
use Rattle.words.specs.Fields.{dest, imm}
use Rattle.words.specs.Registers.{ssp_reg}
use Rattle.status.specs.Psw.{mk_psw}
use Rattle.blocks.specs.Memory.{fetch, store}
use Rattle.macro_meaning.specs.Effects.{inc, dec, mode}
use Rattle.macro_meaning.specs.Step.{Macro}
use Rattle.macro_meaning.specs.Programs.{instruction, holds}

-- what CALL pushes
abbrev pub pushed : Macro → ℕ
pushed s = inc s.machine.pc

-- where RTN goes
abbrev pub return_address : Macro → ℕ
return_address s = fetch s.memory (dec (holds s (dest (instruction s))))

-- what GPSW gives
abbrev pub psw_given : Macro → ℕ
psw_given s = mk_psw s.machine.psw

-- SSP, the address of the stack word
abbrev pub stack_top : Macro → ℕ
stack_top s = holds s ssp_reg

-- a state as a handler finds it: supervisor mode, interrupts off, the address to go back to in the stack word, and SSP moved on
abbrev pub entered : Macro → ℕ → ℕ → Macro
entered s entry back =
    record {
      machine = record {
        registers = set s.machine.registers ssp_reg (inc (stack_top s));
        psw = mode s.machine.psw true false;
        pc = entry;
        ivec = s.machine.ivec;
      };
      memory = store s.memory (stack_top s) back;
    }

-- the handler that an INT names by its immediate
abbrev pub int_entry : Macro → ℕ
int_entry s = bit_and 255 (imm (instruction s))

-- .. and the one that the vector names
abbrev pub interrupt_entry : Macro → ℕ
interrupt_entry s = bit_and 255 s.machine.ivec

-- what the interrupt step pushes: the address of the instruction that waits
abbrev pub put_off : Macro → ℕ
put_off s = s.machine.pc
