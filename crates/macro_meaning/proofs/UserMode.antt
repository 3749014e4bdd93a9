-- USER MODE. A program in user mode cannot reach what is the supervisor's: it changes none of registers 1 to 7, and its only ways into
-- supervisor mode are INT and an interrupt, which go to a handler and of all registers change SSP alone.
use Prim.Native.Nat.{ℕ, ◌≤◌}
use mathlib.Core.Path.{◌≡◌, refl, ap, ◌∙◌}
use mathlib.Core.Bool.{Bool, true, false}
use mathlib.Core.Logic.{◌⊎◌, inl, inr}
use lib.ListN.{get_or}
use lib.Seq.{get_or-set_other}
use Rattle.words.specs.Registers.{ssp_reg, is_sup_reg, update_reg}
use Rattle.words.proofs.RegisterRule.{seven_kept}
use Rattle.macro_meaning.specs.declared.Effect.{Effect}
use Rattle.blocks.specs.Memory.{fetch}
use Rattle.macro_meaning.specs.Effects.{inc, dec, mode}
use Rattle.macro_meaning.specs.Instructions.{jmp, call, interrupted, rti, rtn, gpsw, ppsw, ld, st, shift, arithmetic, logic, noop, effect, eint_key}
use Rattle.macro_meaning.specs.Step.{Macro}
use Rattle.macro_meaning.specs.Programs.{next, entry, holds, Does, moved_to}
use Rattle.macro_meaning.proofs.StepsTaken.{reads, what_it_does, by_entry, by_its_entry, does}
use Rattle.macro_meaning.proofs.EveryInstruction.{Kinds, every}

-- Let a step in user mode be neither INT nor the interrupt step.
module _ (s : Macro) (request : Bool) (user : s.machine.psw.sm ≡ false)
    (not_int : entry s request ≡ 2 → ⊥) (not_interrupt : entry s request ≡ eint_key → ⊥) where
  -- it writes its register as a user, and leaves sm clear
  as_a_user : Kinds (entry s request) s.memory (reads s) (λ (e : Effect). (e.sm ≡ false) × (e.psw.sm ≡ false))
  unfolding jmp call rti rtn gpsw ppsw ld st shift arithmetic logic noop
  as_a_user =
      record {
        jmp_kind = (user, user);
        call_kind = λ k. (user, user);
        int_kind = λ k. absurd (not_int k);
        rti_kind = λ k. (user, refl);
        gpsw_kind = (user, user);
        ppsw_kind = (user, rw user);
        ld_kind = λ offset. (user, user);
        st_kind = λ k offset. (user, user);
        shift_kind = λ value out w. (user, user);
        rtn_kind = (user, user);
        eint_kind = λ k. absurd (not_interrupt k);
        arithmetic_kind = λ out w. (user, user);
        logic_kind = λ out w. (user, user);
        noop_kind = (user, user);
      }

  writes : ((what_it_does s request).sm ≡ false) × ((what_it_does s request).psw.sm ≡ false)
  writes = every (entry s request) s.memory (reads s) (λ (e : Effect). (e.sm ≡ false) × (e.psw.sm ≡ false)) as_a_user

  -- it changes none of the registers 1 to 7
  pub seven_registers_kept : (n : ℕ) → 1 ≤ n → n ≤ 7 → holds (next s request) n ≡ holds s n
  seven_registers_kept n h k =
      let e = what_it_does s request in
      ap (λ (t : Macro). holds t n) (by_its_entry s request)
      ∙ rw writes.0 (seven_kept e.register s.machine.registers e.value n h k)

  -- .. and stays in user mode
  pub user_mode_kept : (next s request).machine.psw.sm ≡ false
  user_mode_kept = ap (λ (t : Macro). t.machine.psw.sm) (by_its_entry s request) ∙ writes.1

-- INT and the interrupt step, in either mode, change of all registers SSP alone.
pub only_ssp_moves : (s : Macro) (request : Bool) → (entry s request ≡ 2) ⊎ (entry s request ≡ eint_key)
    → (n : ℕ) → (n ≡ ssp_reg → ⊥) → holds (next s request) n ≡ holds s n
unfolding effect interrupted update_reg is_sup_reg
only_ssp_moves s request way n other = ap (λ (t : Macro). holds t n) (by_its_entry s request) ∙ by_entry_of way
  where
    pushed : get_or (update_reg true ssp_reg s.machine.registers (inc (holds s ssp_reg))) n 0 ≡ holds s n
    pushed = get_or-set_other s.machine.registers ssp_reg n (inc (holds s ssp_reg)) 0 other

    by_entry_of : (entry s request ≡ 2) ⊎ (entry s request ≡ eint_key) → holds (by_entry (entry s request) s) n ≡ holds s n
    by_entry_of (inl e) = rw e pushed
    by_entry_of (inr e) = rw e pushed

-- PPSW in user mode moves PC alone: a user can't write the PSW.
pub ppsw_moves_pc_alone : (s : Macro) (request : Bool) → Does 5 s request → s.machine.psw.sm ≡ false
    → next s request ≡ record { machine = moved_to (inc s.machine.pc) s.machine; memory = s.memory }
unfolding effect ppsw update_reg
ppsw_moves_pc_alone s request d user = does s request d ∙ rw user

-- RTI in user mode leaves every register, SSP too: it writes SSP under the sm that it found. PC and PSW change all the same.
pub rti_leaves_ssp : (s : Macro) (request : Bool) → Does 3 s request → s.machine.psw.sm ≡ false
    → next s request
    ≡ record {
      machine = record {
        registers = s.machine.registers;
        psw = mode s.machine.psw false true;
        pc = fetch s.memory (dec (holds s ssp_reg));
        ivec = s.machine.ivec;
      };
      memory = s.memory;
    }
unfolding effect rti update_reg is_sup_reg
rti_leaves_ssp s request d user = does s request d ∙ rw user
