-- INT, THE INTERRUPT STEP, AND RTI. A handler that ends in RTI goes back to where the interrupt came from.
--
-- INT and the interrupt step set sm, clear ie, push an address at SSP and add 1 to SSP: INT the address behind it, the interrupt step
-- that of the instruction it came before. RTI takes 1 off SSP, goes to the address that stands there, clears sm and sets ie. So RTI
-- always ends in user mode with interrupts on, whatever the mode was before: a supervisor's program that is interrupted goes on in user
-- mode.
use Prim.Native.Nat.{ℕ}
use mathlib.Core.Path.{◌≡◌, refl, sym, ap, ◌∙◌}
use mathlib.Core.Bool.{Bool, true, false}
use lib.ListN.{set}
use lib.Seq.{get_or-set_same, set-set, set-get_or}
use native.Mathlib.Omega.{arith}
use Rattle.words.specs.Fields.{opcode}
use Rattle.words.specs.Registers.{ssp_reg, is_sup_reg, update_reg}
use Rattle.words.proofs.Cases.{and_right}
use Rattle.alu.proofs.Sums.{off_again}
use Rattle.blocks.specs.Memory.{fetch, store}
use Rattle.blocks.proofs.MemoryWords.{read_back, kept_elsewhere}
use Rattle.macro_meaning.specs.Effects.{inc, mode}
use Rattle.macro_meaning.specs.Instructions.{interrupted, rti, effect}
use Rattle.macro_meaning.specs.Step.{Macro}
use Rattle.macro_meaning.specs.Programs.{next, instruction, Legal, Does, Apart}
use Rattle.macro_meaning.proofs.StepsTaken.{does, interrupts, has_words}
use Rattle.macro_meaning.proofs.WhatIsLeft.{stack_top, entered, int_entry, interrupt_entry, put_off}

-- a state back at an address, in user mode with interrupts on, with the pushed address in the stack word and the rest as it was
abbrev pub back_at : ℕ → Macro → Macro
back_at pc s =
    record {
      machine = record {
        registers = s.machine.registers;
        psw = mode s.machine.psw false true;
        pc = pc;
        ivec = s.machine.ivec;
      };
      memory = store s.memory (stack_top s) pc;
    }

-- ---- the way in

-- INT enters the handler that its immediate names, in either mode
pub int_enters : (s : Macro) (request : Bool) → Does 2 s request → next s request ≡ entered s (int_entry s) (inc s.machine.pc)
unfolding effect interrupted update_reg is_sup_reg
int_enters s request d = does s request d

-- a request that is up, with ie set, enters the handler that the vector names; the instruction at PC waits
pub interrupt_enters : (s : Macro) → s.machine.psw.ie ≡ true → next s true ≡ entered s (interrupt_entry s) (put_off s)
unfolding effect interrupted update_reg is_sup_reg
interrupt_enters s on = interrupts s on

-- ---- the way back

module _ (s : Macro) (legal : Legal s) (entry back : ℕ) where
  -- However much the handler did: let RTI in supervisor mode find SSP and the stack word as the handler found them. Then it goes to the
  -- pushed address, puts SSP back, clears sm, sets ie, and changes nothing else.
  module _ (t : Macro) (later : Bool) (returns : Does 3 t later) (supervisor : t.machine.psw.sm ≡ true)
      (pointer : stack_top t ≡ stack_top (entered s entry back))
      (word : fetch t.memory (stack_top s) ≡ fetch (entered s entry back).memory (stack_top s)) where
    pub rti_goes_back : next t later
        ≡ record {
          machine = record {
            registers = set t.machine.registers ssp_reg (stack_top s);
            psw = mode t.machine.psw false true;
            pc = back;
            ivec = t.machine.ivec;
          };
          memory = t.memory;
        }
    unfolding effect rti update_reg is_sup_reg
    rti_goes_back =
        does t later returns
        ∙ rw (
          supervisor,
          pointer,
          get_or-set_same s.machine.registers ssp_reg (inc (stack_top s)) 0 (rw legal.registers (omega arith)),
          off_again (stack_top s) (legal.words ssp_reg),
          word,
          read_back s.memory (stack_top s) back (has_words s legal),
        )

  -- RTI as the whole handler, in another word than the stack word. No interrupt can come before it: ie is clear.
  there_and_back : Apart s.memory entry (stack_top s) → opcode (fetch s.memory entry) ≡ 3 → (later : Bool)
      → next (entered s entry back) later ≡ back_at back s
  there_and_back far there later = rti_goes_back (entered s entry back) later returns refl refl refl ∙ rw (set-set, set-get_or)
    where
      returns : Does 3 (entered s entry back) later
      returns =
          record { undisturbed = and_right later; chosen = ap opcode (kept_elsewhere s.memory (stack_top s) entry back far) ∙ there }

-- Let INT stand at PC, and RTI where it goes, in another word than the stack word (modulo M). Then the two are back behind INT, in user
-- mode with interrupts on, all registers (SSP too) as before, and of memory only the stack word is changed.
pub int_then_rti : (s : Macro) (request later : Bool) → Legal s → Does 2 s request
    → Apart s.memory (int_entry s) (stack_top s) → opcode (fetch s.memory (int_entry s)) ≡ 3
    → next (next s request) later ≡ back_at (inc s.machine.pc) s
int_then_rti s request later legal d far there =
    ap (λ (t : Macro). next t later) (int_enters s request d) ∙ there_and_back s legal (int_entry s) (inc s.machine.pc) far there later

-- Let a request be up and ie be set, and RTI stand where the vector goes, in another word than the stack word. Then the two are back at the
-- instruction that was interrupted, in user mode with interrupts on, all registers as before, and only the stack word is changed.
pub interrupt_then_rti : (s : Macro) (later : Bool) → Legal s → s.machine.psw.ie ≡ true
    → Apart s.memory (interrupt_entry s) (stack_top s) → opcode (fetch s.memory (interrupt_entry s)) ≡ 3
    → next (next s true) later ≡ back_at s.machine.pc s
interrupt_then_rti s later legal on far there =
    ap (λ (t : Macro). next t later) (interrupt_enters s on) ∙ there_and_back s legal (interrupt_entry s) s.machine.pc far there later

-- So a program in user mode goes on where it was: the machine is as it was, and so is the instruction at PC, if it is another word than the
-- stack word. Of memory only the stack word differs.
pub interrupted_program_resumes : (s : Macro) (later : Bool) → Legal s → s.machine.psw.ie ≡ true → s.machine.psw.sm ≡ false
    → Apart s.memory (interrupt_entry s) (stack_top s) → opcode (fetch s.memory (interrupt_entry s)) ≡ 3
    → Apart s.memory s.machine.pc (stack_top s)
    → ((next (next s true) later).machine ≡ s.machine) × (instruction (next (next s true) later) ≡ instruction s)
interrupted_program_resumes s later legal on user far there own =
    let back = interrupt_then_rti s later legal on far there in (
      ap (λ (t : Macro). t.machine) back ∙ unchanged,
      ap instruction back ∙ kept_elsewhere s.memory (stack_top s) s.machine.pc s.machine.pc own,
    )
  where
    unchanged : (back_at s.machine.pc s).machine ≡ s.machine
    unchanged i =
        record {
          registers = s.machine.registers;
          psw = record {
            sm = sym user i;
            ie = sym on i;
            v = s.machine.psw.v;
            n = s.machine.psw.n;
            c = s.machine.psw.c;
            z = s.machine.psw.z;
          };
          pc = s.machine.pc;
          ivec = s.machine.ivec;
        }
