-- DROPPED WRITES. An instruction whose destination can't be written, register 0 or in user mode one of 1 to 7, changes no register at
-- all; what else it does (PC, flags, memory) it does all the same. INT, RTI and the interrupt step write SSP and not their destination.
use Prim.Native.Nat.{ℕ}
use mathlib.Core.Path.{◌≡◌, refl, ◌∙◌}
use mathlib.Core.Bool.{Bool, true, false, not, ◌&&◌}
use mathlib.Core.Logic.{◌⊎◌, inl, inr}
use lib.Dec.{eqb}
use borrow.Author.Tests.{eqb-true, eqb-false}
use Rattle.words.specs.Fields.{dest}
use Rattle.words.specs.Registers.{is_sup_reg, update_reg}
use Rattle.words.proofs.Cases.{upright}
use Rattle.words.proofs.RegisterRule.{zero_register, guarded}
use Rattle.blocks.specs.Memory.{applied}
use Rattle.macro_meaning.specs.declared.Effect.{Effect}
use Rattle.macro_meaning.specs.Instructions.{jmp, call, rtn, gpsw, ppsw, ld, st, shift, arithmetic, logic, noop, eint_key}
use Rattle.macro_meaning.specs.Step.{Macro}
use Rattle.macro_meaning.specs.Programs.{next, instruction, entry, writable}
use Rattle.macro_meaning.proofs.StepsTaken.{reads, what_it_does, by_its_entry}
use Rattle.macro_meaning.proofs.EveryInstruction.{Kinds, every}

-- a write to a register that can't be written
nothing_written : (s : Macro) (n value : ℕ) → writable s n ≡ false
    → update_reg s.machine.psw.sm n s.machine.registers value ≡ s.machine.registers
nothing_written s n value locked = by_number (eqb n 0) refl locked
  where
    by_number : (t : Bool) → eqb n 0 ≡ t → (not t && not (is_sup_reg n && not s.machine.psw.sm)) ≡ false
        → update_reg s.machine.psw.sm n s.machine.registers value ≡ s.machine.registers
    by_number true e l = zero_register s.machine.psw.sm n s.machine.registers value (eqb-true n 0 e)
    by_number false e l = guarded s.machine.psw.sm n s.machine.registers value (eqb-false n 0 e) (upright _ l)

module _ (s : Macro) (request : Bool) (not_int : entry s request ≡ 2 → ⊥) (not_rti : entry s request ≡ 3 → ⊥)
    (not_interrupt : entry s request ≡ eint_key → ⊥) where
  -- an effect on the destination or on no register
  abbrev OwnWrite : Effect → Type 0
  OwnWrite e = (e.sm ≡ s.machine.psw.sm) × ((e.register ≡ dest (instruction s)) ⊎ (e.register ≡ 0))

  own_writes : Kinds (entry s request) s.memory (reads s) OwnWrite
  unfolding jmp call rtn gpsw ppsw ld st shift arithmetic logic noop
  own_writes =
      record {
        jmp_kind = (refl, inr refl);
        call_kind = λ k. (refl, inl refl);
        int_kind = λ k. absurd (not_int k);
        rti_kind = λ k. absurd (not_rti k);
        gpsw_kind = (refl, inl refl);
        ppsw_kind = (refl, inr refl);
        ld_kind = λ offset. (refl, inl refl);
        st_kind = λ k offset. (refl, inr refl);
        shift_kind = λ value out w. (refl, inl refl);
        rtn_kind = (refl, inl refl);
        eint_kind = λ k. absurd (not_interrupt k);
        arithmetic_kind = λ out w. (refl, inl refl);
        logic_kind = λ out w. (refl, inl refl);
        noop_kind = (refl, inr refl);
      }

  pub dropped_write_changes_no_register : writable s (dest (instruction s)) ≡ false
      → next s request
      ≡ record {
        machine = record {
          registers = s.machine.registers;
          psw = (what_it_does s request).psw;
          pc = (what_it_does s request).pc;
          ivec = s.machine.ivec;
        };
        memory = applied (what_it_does s request).store s.memory;
      }
  dropped_write_changes_no_register locked = by_its_entry s request ∙ rw writes.0 (rw (by_register writes.1))
    where
      writes : OwnWrite (what_it_does s request)
      writes = every (entry s request) s.memory (reads s) OwnWrite own_writes

      by_register : ((what_it_does s request).register ≡ dest (instruction s)) ⊎ ((what_it_does s request).register ≡ 0)
          → update_reg s.machine.psw.sm (what_it_does s request).register s.machine.registers (what_it_does s request).value
          ≡ s.machine.registers
      by_register (inl own) = rw own (nothing_written s (dest (instruction s)) (what_it_does s request).value locked)
      by_register (inr none) =
          zero_register s.machine.psw.sm (what_it_does s request).register s.machine.registers (what_it_does s request).value none
