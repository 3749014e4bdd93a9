-- CALL AND RTN. A subroutine that ends in RTN with the stack register of its CALL goes on behind the CALL.
--
-- CALL pushes the address behind it at R[d] and adds 1 to R[d]; RTN takes 1 off R[d] and goes to the address that stands there. For that
-- the stack register must be writable: not register 0, and in user mode none of 1 to 7.
use Prim.Native.Nat.{ℕ}
use mathlib.Core.Path.{◌≡◌, ◌∙◌, ap, refl}
use mathlib.Core.Bool.{Bool, true, false, ◌&&◌}
use lib.ListN.{set}
use lib.Seq.{set-set, set-get_or}
use Rattle.words.specs.Fields.{opcode, dest}
use Rattle.words.specs.Registers.{update_reg}
use Rattle.alu.proofs.Sums.{off_again}
use Rattle.blocks.specs.Memory.{fetch, store}
use Rattle.blocks.proofs.MemoryWords.{read_back, kept_elsewhere}
use Rattle.macro_meaning.specs.Effects.{inc, dec}
use Rattle.macro_meaning.specs.Instructions.{call, rtn, effect}
use Rattle.macro_meaning.specs.Step.{Macro}
use Rattle.macro_meaning.specs.Programs.{next, instruction, holds, Legal, Does, writable, target, moved_to, Apart}
use Rattle.macro_meaning.proofs.StepsTaken.{does, written, holds_it, has_words}
use Rattle.macro_meaning.proofs.WhatIsLeft.{pushed, return_address}

-- RTN takes 1 off its register, under the register rule, and goes to the address that stands there.
pub rtn_pops : (s : Macro) (request : Bool) → Does 11 s request
    → let stack = dest (instruction s) in
    let popped = dec (holds s stack) in
    next s request
    ≡ record {
      machine = record {
        registers = update_reg s.machine.psw.sm stack s.machine.registers popped;
        psw = s.machine.psw;
        pc = return_address s;
        ivec = s.machine.ivec;
      };
      memory = s.memory;
    }
unfolding effect rtn
rtn_pops s request d = does s request d

-- Let CALL stand at PC.
module _ (s : Macro) (request : Bool) (calls : Does 1 s request) where
  -- its stack register, and what it holds: the address of the stack word
  abbrev stack : ℕ
  stack = dest (instruction s)

  abbrev top : ℕ
  top = holds s stack

  abbrev called : Macro
  called =
      record {
        machine = record {
          registers = update_reg s.machine.psw.sm stack s.machine.registers (inc top);
          psw = s.machine.psw;
          pc = target s;
          ivec = s.machine.ivec;
        };
        memory = store s.memory top (pushed s);
      }

  after_call : next s request ≡ called
  unfolding effect call
  after_call = does s request calls

  -- CALL jumps by the register as it was, also where it is the one that CALL moves
  pub call_jumps_by_the_old_register : (next s request).machine.pc ≡ target s
  call_jumps_by_the_old_register = ap (λ (t : Macro). t.machine.pc) after_call

  -- what CALL leaves: the stack register moved on, and the stack word
  module _ (legal : Legal s) (free : writable s stack ≡ true) where
    pointer_after : holds (next s request) stack ≡ inc top
    pointer_after =
        ap (λ (t : Macro). holds t stack) after_call ∙ holds_it s legal (instruction s) (inc top) free

    word_after : fetch (next s request).memory top ≡ pushed s
    word_after = ap (λ (t : Macro). fetch t.memory top) after_call ∙ read_back s.memory top (pushed s) (has_words s legal)

    -- However much was done in between: let RTN with the same stack register, still writable, find that register and the stack word as
    -- CALL left them. Then it goes behind the CALL, puts the register back, and changes nothing else.
    module _ (t : Macro) (later : Bool) (returns : Does 11 t later) (same : dest (instruction t) ≡ stack) (still : writable t stack ≡ true)
        (pointer : holds t stack ≡ holds (next s request) stack) (word : fetch t.memory top ≡ fetch (next s request).memory top) where
      popped : dec (holds t stack) ≡ top
      popped = ap dec (pointer ∙ pointer_after) ∙ off_again top (legal.words stack)

      put_back : update_reg t.machine.psw.sm stack t.machine.registers (dec (holds t stack))
          ≡ set t.machine.registers stack top
      put_back = ap (update_reg t.machine.psw.sm stack t.machine.registers) popped ∙ written t stack top still

      back : fetch t.memory (dec (holds t stack)) ≡ inc s.machine.pc
      back = ap (fetch t.memory) popped ∙ word ∙ word_after

      pub return_behind_call : next t later
          ≡ record {
            machine = record {
              registers = set t.machine.registers stack top;
              psw = t.machine.psw;
              pc = inc s.machine.pc;
              ivec = t.machine.ivec;
            };
            memory = t.memory;
          }
      return_behind_call =
          rtn_pops t later returns
          ∙ rw same
          (λ i. record {
            machine = record { registers = put_back i; psw = t.machine.psw; pc = back i; ivec = t.machine.ivec };
            memory = t.memory;
          })

    -- Nothing in between: let RTN with the same stack register stand where CALL goes, in another word than the stack word (modulo M), and
    -- no interrupt be taken before it. Then the two are back behind the CALL, all registers and the PSW as before, and of memory only the
    -- stack word is changed.
    module _ (later : Bool) (undisturbed : (later && s.machine.psw.ie) ≡ false) (far : Apart s.memory (target s) top)
        (there : opcode (fetch s.memory (target s)) ≡ 11) (same : dest (fetch s.memory (target s)) ≡ stack) where
      found : instruction (next s request) ≡ fetch s.memory (target s)
      found = ap instruction after_call ∙ kept_elsewhere s.memory top (target s) (pushed s) far

      returns_there : Does 11 (next s request) later
      returns_there = record { undisturbed = rw after_call undisturbed; chosen = ap opcode found ∙ there }

      pub call_then_return : next (next s request) later
          ≡ record { machine = moved_to (inc s.machine.pc) s.machine; memory = store s.memory top (inc s.machine.pc) }
      call_then_return =
          return_behind_call (next s request) later returns_there (ap dest found ∙ same) (rw after_call free) refl refl
          ∙ rw (after_call, written s stack (inc top) free, set-set, set-get_or)
