-- What ADD, ADDC and SUB do, with R[b] or with the immediate: the ALU's value goes to R[d] and its four flags to the PSW.
use Prim.Native.Nat.{ℕ}
use mathlib.Core.Path.{◌≡◌}
use mathlib.Core.Bool.{Bool}
use Rattle.words.specs.Fields.{dest}
use Rattle.words.specs.Registers.{update_reg}
use Rattle.alu.specs.declared.AluOutput.{AluOutput}
use Rattle.alu.specs.Alu.{add_without_carry, add_with_carry, sub_without_carry}
use Rattle.macro_meaning.specs.Effects.{inc, zcnv}
use Rattle.macro_meaning.specs.Instructions.{arithmetic, computation, effect}
use Rattle.macro_meaning.specs.Step.{Macro}
use Rattle.macro_meaning.specs.Programs.{next, instruction, Operates, on_registers, with_immediate}
use Rattle.macro_meaning.proofs.StepsTaken.{does}

-- a state one instruction on, with an ALU's output in R[d], under the register rule, and in the flags
abbrev pub put_out : Macro → AluOutput → Macro
put_out s out =
    record {
      machine = record {
        registers = update_reg s.machine.psw.sm (dest (instruction s)) s.machine.registers out.value;
        psw = zcnv s.machine.psw out;
        pc = inc s.machine.pc;
        ivec = s.machine.ivec;
      };
      memory = s.memory;
    }

module _ (s : Macro) (request : Bool) where
  pub add_puts : {a b : ℕ} → Operates 16 24 s request a b → next s request ≡ put_out s (add_without_carry a b)
  unfolding effect computation arithmetic
  add_puts (on_registers d) = does s request d
  add_puts (with_immediate d) = does s request d

  pub addc_puts : {a b : ℕ} → Operates 17 25 s request a b → next s request ≡ put_out s (add_with_carry a b s.machine.psw.c)
  unfolding effect computation arithmetic
  addc_puts (on_registers d) = does s request d
  addc_puts (with_immediate d) = does s request d

  pub sub_puts : {a b : ℕ} → Operates 18 26 s request a b → next s request ≡ put_out s (sub_without_carry a b)
  unfolding effect computation arithmetic
  sub_puts (on_registers d) = does s request d
  sub_puts (with_immediate d) = does s request d
