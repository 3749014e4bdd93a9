-- GPSW AND PPSW. In supervisor mode a program can put the PSW into a register and take it back.
use Prim.Native.Nat.{ℕ, ◌<◌}
use mathlib.Core.Path.{◌≡◌, ap, ◌∙◌}
use mathlib.Core.Bool.{Bool, true}
use lib.ListN.{set}
use Rattle.words.specs.Words.{bit}
use Rattle.words.specs.Fields.{dest}
use Rattle.words.specs.Registers.{update_reg}
use Rattle.status.specs.Psw.{mk_psw, get_psw}
use Rattle.status.proofs.PswNumbers.{six_bits, restored}
use Rattle.macro_meaning.specs.Effects.{inc}
use Rattle.macro_meaning.specs.Instructions.{gpsw, ppsw, effect}
use Rattle.macro_meaning.specs.Step.{Macro}
use Rattle.macro_meaning.specs.Programs.{next, instruction, holds, Legal, Does, writable, clear_psw}
use Rattle.macro_meaning.proofs.StepsTaken.{does, written, holds_it, supervisor_writes}
use Rattle.macro_meaning.proofs.WhatIsLeft.{psw_given}
use Rattle.macro_meaning.proofs.RegisterZero.{register_0_kept}

-- GPSW puts the PSW's number into its register, under the register rule
after_gpsw : (s : Macro) (request : Bool) → Does 4 s request
    → next s request
    ≡ record {
      machine = record {
        registers = update_reg s.machine.psw.sm (dest (instruction s)) s.machine.registers (psw_given s);
        psw = s.machine.psw;
        pc = inc s.machine.pc;
        ivec = s.machine.ivec;
      };
      memory = s.memory;
    }
unfolding effect gpsw
after_gpsw s request gets = does s request gets

-- Where the register is writable it holds the PSW after GPSW: six bits, and 0 above them.
pub gpsw_gives_six_bits : (s : Macro) (request : Bool) → Legal s → Does 4 s request → writable s (dest (instruction s)) ≡ true
    → (holds (next s request) (dest (instruction s)) ≡ mk_psw s.machine.psw) × (mk_psw s.machine.psw < 64)
gpsw_gives_six_bits s request legal gets free = (
  ap (λ (t : Macro). holds t (dest (instruction s))) (after_gpsw s request gets)
      ∙ holds_it s legal (instruction s) (mk_psw s.machine.psw) free,
  six_bits s.machine.psw,
)

-- PPSW in supervisor mode takes the PSW from its register, and PC goes on
after_ppsw : (s : Macro) (request : Bool) → Does 5 s request → s.machine.psw.sm ≡ true
    → next s request
    ≡ record {
      machine = record {
        registers = s.machine.registers;
        psw = get_psw (holds s (dest (instruction s)));
        pc = inc s.machine.pc;
        ivec = s.machine.ivec;
      };
      memory = s.memory;
    }
unfolding effect ppsw update_reg
after_ppsw s request puts supervisor = does s request puts ∙ rw supervisor

-- Let GPSW be done in supervisor mode, and PPSW with the same register after it.
module _ (s : Macro) (request later : Bool) (legal : Legal s) (supervisor : s.machine.psw.sm ≡ true)
    (gets : Does 4 s request) (puts : Does 5 (next s request) later)
    (same : dest (instruction (next s request)) ≡ dest (instruction s)) where
  abbrev own : ℕ
  own = dest (instruction s)

  abbrev word : ℕ
  word = mk_psw s.machine.psw

  -- both, with what the register holds in between
  both_steps : next (next s request) later
      ≡ record {
        machine = record {
          registers = update_reg s.machine.psw.sm own s.machine.registers word;
          psw = get_psw (holds (next s request) own);
          pc = inc (inc s.machine.pc);
          ivec = s.machine.ivec;
        };
        memory = s.memory;
      }
  both_steps =
      after_ppsw (next s request) later puts (ap (λ (t : Macro). t.machine.psw.sm) (after_gpsw s request gets) ∙ supervisor)
      ∙ rw (same, after_gpsw s request gets)

  -- With a register other than 0 nothing is changed but PC, and the register, which holds the PSW.
  pub gpsw_then_ppsw : (own ≡ 0 → ⊥) → next (next s request) later
      ≡ record {
        machine = record {
          registers = set s.machine.registers own word;
          psw = s.machine.psw;
          pc = inc (inc s.machine.pc);
          ivec = s.machine.ivec;
        };
        memory = s.memory;
      }
  gpsw_then_ppsw other =
      let free = supervisor_writes s own supervisor other in
      both_steps
      ∙ (λ i. record {
        machine = record {
          registers = written s own word free i;
          psw = (ap get_psw (gpsw_gives_six_bits s request legal gets free).0 ∙ restored s.machine.psw) i;
          pc = inc (inc s.machine.pc);
          ivec = s.machine.ivec;
        };
        memory = s.memory;
      })

  -- With register 0, which GPSW can't write and which holds 0, the PSW is cleared: user mode, interrupts off.
  pub gpsw_then_ppsw_of_register_0 : own ≡ 0 → next (next s request) later
      ≡ record {
        machine = record { registers = s.machine.registers; psw = clear_psw; pc = inc (inc s.machine.pc); ivec = s.machine.ivec };
        memory = s.memory;
      }
  unfolding update_reg get_psw bit
  gpsw_then_ppsw_of_register_0 zero = both_steps ∙ rw (zero, register_0_kept s request, legal.zero)
