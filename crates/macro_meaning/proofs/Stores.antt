-- WHAT A STEP STORES. At most one word of memory changes, and only ST, STI, CALL, INT and the interrupt step change any.
use Prim.Native.Nat.{ℕ}
use mathlib.Core.Path.{◌≡◌, refl, ap, ◌∙◌}
use mathlib.Core.Bool.{Bool}
use mathlib.Core.List.{List}
use mathlib.Core.Logic.{◌⊎◌, inl, inr}
use lib.ListN.{length, get_or}
use lib.Seq.{get_or-set_other}
use Rattle.blocks.specs.declared.memory.Store.{Store}
use Rattle.std.specs.Prelude.{Option, Some, None}
use Rattle.blocks.specs.Memory.{address, store, applied}
use Rattle.blocks.proofs.MemoryWords.{length_kept}
use Rattle.macro_meaning.specs.declared.Effect.{Effect}
use Rattle.macro_meaning.specs.Instructions.{jmp, rti, rtn, gpsw, ppsw, ld, shift, arithmetic, logic, noop, eint_key}
use Rattle.macro_meaning.specs.Step.{Macro}
use Rattle.macro_meaning.specs.Programs.{next, entry}
use Rattle.macro_meaning.proofs.StepsTaken.{reads, what_it_does, by_its_entry}
use Rattle.macro_meaning.proofs.EveryInstruction.{Kinds, every}

-- two memories are alike but for one place at most
abbrev pub OnePlaceApart : List ℕ → List ℕ → Type 0
OnePlaceApart mem after = (place : ℕ) × ((j : ℕ) → (j ≡ place → ⊥) → get_or after j 0 ≡ get_or mem j 0)

module _ (s : Macro) (request : Bool) where
  memory_after : (next s request).memory ≡ applied (what_it_does s request).store s.memory
  memory_after = ap (λ (t : Macro). t.memory) (by_its_entry s request)

  -- There is one place such that every other word of memory is as before, and memory is as long as before.
  pub at_most_one_word : (OnePlaceApart s.memory (next s request).memory) × (length (next s request).memory ≡ length s.memory)
  unfolding store
  at_most_one_word = rw memory_after (by_store (what_it_does s request).store, length_kept (what_it_does s request).store s.memory)
    where
      by_store : (st : Option Store) → OnePlaceApart s.memory (applied st s.memory)
      by_store None = (0, λ j other. refl)
      by_store (Some st) = (address s.memory st.address, λ j other. get_or-set_other s.memory (address s.memory st.address) j st.word 0 other)

  -- A step that is none of ST, STI, CALL, INT and the interrupt step leaves memory as it is.
  pub only_five_store : (entry s request ≡ 7 → ⊥) → (entry s request ≡ 15 → ⊥) → (entry s request ≡ 1 → ⊥) → (entry s request ≡ 2 → ⊥)
      → (entry s request ≡ eint_key → ⊥) → (next s request).memory ≡ s.memory
  unfolding jmp rti rtn gpsw ppsw ld shift arithmetic logic noop
  only_five_store not_st not_sti not_call not_int not_interrupt =
      memory_after
      ∙ ap (λ (st : Option Store). applied st s.memory)
      (every (entry s request) s.memory (reads s) (λ (e : Effect). e.store ≡ None) nothing)
    where
      no_st : (entry s request ≡ 7) ⊎ (entry s request ≡ 15) → ⊥
      no_st (inl e) = not_st e
      no_st (inr e) = not_sti e

      nothing : Kinds (entry s request) s.memory (reads s) (λ (e : Effect). e.store ≡ None)
      nothing =
          record {
            jmp_kind = refl;
            call_kind = λ k. absurd (not_call k);
            int_kind = λ k. absurd (not_int k);
            rti_kind = λ k. refl;
            gpsw_kind = refl;
            ppsw_kind = refl;
            ld_kind = λ offset. refl;
            st_kind = λ k offset. absurd (no_st k);
            shift_kind = λ value out w. refl;
            rtn_kind = refl;
            eint_kind = λ k. absurd (not_interrupt k);
            arithmetic_kind = λ out w. refl;
            logic_kind = λ out w. refl;
            noop_kind = refl;
          }
