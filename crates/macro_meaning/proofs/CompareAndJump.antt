-- COMPARE AND JUMP. SUB or SUBI into register 0 changes the flags alone; JMP with a code from 6 to 13 behind it jumps exactly on the
-- relation that table 5.4 (p. 68) names for the code, unsigned for 8 and 9, signed for 10 to 13. Code 13 is less or equal, whatever the
-- table says.
use Prim.Native.Nat.{ℕ, suc, ◌^◌, ◌<◌, ◌≤◌}
use native.Mathlib.Nat.{le_antisymm, le_trans, lt_irrefl}
use mathlib.Core.Path.{◌≡◌, ap, subst, ◌∙◌}
use mathlib.Core.Bool.{Bool, cond}
use mathlib.Core.Logic.{◌⊎◌, inl, inr}
use Rattle.words.specs.Fields.{dest, srca, imm}
use Rattle.words.specs.Registers.{update_reg}
use Rattle.words.proofs.Cases.{lt_or_le}
use Rattle.alu.specs.Alu.{subtracted, sub_without_carry}
use Rattle.status.specs.declared.psw.Psw.{Psw}
use Rattle.status.specs.Jump.{jump_cond}
use Rattle.status.proofs.Comparisons as Comparisons
use Rattle.macro_meaning.specs.Effects.{add, inc, zcnv}
use Rattle.macro_meaning.specs.Relations.{relation}
use Rattle.macro_meaning.specs.Step.{Macro}
use Rattle.macro_meaning.specs.Programs.{next, instruction, holds, Legal, Does, Operates}
use Rattle.macro_meaning.proofs.StepsTaken.{operand_words}
use Rattle.macro_meaning.proofs.SumSteps.{sub_puts}
use Rattle.macro_meaning.proofs.Jumps.{jmp_moves_pc_alone}

-- ---- a jump code after a comparison is its relation

at_or_above : (P : ℕ → Type 0) (code k : ℕ) → k ≤ code → P k → (suc k ≤ code → P code) → P code
at_or_above P code k h here later = by_order (lt_or_le k code)
  where
    by_order : (k < code) ⊎ (code ≤ k) → P code
    by_order (inl x) = later x
    by_order (inr x) = subst P (le_antisymm h x) here

by_code : (p : Psw) (a b : ℕ) → a < 2 ^ 32 → b < 2 ^ 32 → (code : ℕ) → 6 ≤ code → code ≤ 13
    → jump_cond code (Comparisons.compared p a b) ≡ relation code a b
unfolding relation
by_code p a b ha hb code h most =
    at_or_above P code 6 h (Comparisons.equal p a b ha hb)
    (λ h7. at_or_above P code 7 h7 (Comparisons.not_equal p a b ha hb)
    (λ h8. at_or_above P code 8 h8 (Comparisons.lower_or_same p a b ha hb)
    (λ h9. at_or_above P code 9 h9 (Comparisons.higher p a b ha hb)
    (λ h10. at_or_above P code 10 h10 (Comparisons.less p a b ha hb)
    (λ h11. at_or_above P code 11 h11 (Comparisons.greater_or_equal p a b ha hb)
    (λ h12. at_or_above P code 12 h12 (Comparisons.greater p a b ha hb)
    (λ h13. at_or_above P code 13 h13 (Comparisons.less_or_equal p a b ha hb)
    (λ h14. absurd (lt_irrefl 13 (le_trans h14 most))))))))))
  where
    P : ℕ → Type 0
    P k = jump_cond k (Comparisons.compared p a b) ≡ relation k a b

-- ---- the two steps

-- after SUB or SUBI into register 0: the flags of the subtraction, and PC goes on
after_comparison : (s : Macro) (request : Bool) {a b : ℕ} → Operates 18 26 s request a b → dest (instruction s) ≡ 0
    → next s request
    ≡ record {
      machine = record {
        registers = s.machine.registers;
        psw = zcnv s.machine.psw (sub_without_carry a b);
        pc = inc s.machine.pc;
        ivec = s.machine.ivec;
      };
      memory = s.memory;
    }
unfolding update_reg
after_comparison s request compares nowhere = sub_puts s request compares ∙ rw nowhere

-- Let SUB or SUBI into register 0 compare two words, and JMP with a code from 6 to 13 stand behind. It jumps exactly where they are in
-- the code's relation, and else goes on; registers and memory are as before.
module _ (s : Macro) (request later : Bool) (legal : Legal s) {a b : ℕ} (compares : Operates 18 26 s request a b)
    (nowhere : dest (instruction s) ≡ 0) (jumps : Does 0 (next s request) later) (jump : ℕ) (behind : instruction (next s request) ≡ jump)
    (least : 6 ≤ dest jump) (most : dest jump ≤ 13) where
  -- the state after both, by whether it jumps
  abbrev jumped : Bool → Macro
  jumped t =
      record {
        machine = record {
          registers = s.machine.registers;
          psw = Comparisons.compared s.machine.psw a b;
          pc = cond t (add (holds s (srca jump)) (imm jump)) (inc (inc s.machine.pc));
          ivec = s.machine.ivec;
        };
        memory = s.memory;
      }

  pub compare_then_jump : next (next s request) later ≡ jumped (relation (dest jump) a b)
  unfolding subtracted
  compare_then_jump =
      let words = operand_words s request legal compares in
      jmp_moves_pc_alone (next s request) later jumps
      ∙ rw (behind, after_comparison s request compares nowhere)
      (ap jumped (by_code s.machine.psw a b words.0 words.1 (dest jump) least most))
