-- JMP moves PC alone, by the flags as they are. With a code from 14 to 31 it always jumps.
use Prim.Native.Nat.{ℕ, ◌≤◌}
use native.Mathlib.Omega.{arith}
use mathlib.Core.Path.{◌≡◌, ap, ◌∙◌}
use mathlib.Core.Bool.{Bool, true, cond}
use borrow.Author.Tests.{ne_eqb}
use Rattle.words.specs.Fields.{dest}
use Rattle.words.specs.Registers.{update_reg}
use Rattle.status.specs.declared.psw.Psw.{Psw}
use Rattle.status.specs.Jump.{jump_cond}
use Rattle.macro_meaning.specs.Effects.{inc}
use Rattle.macro_meaning.specs.Instructions.{jmp, effect}
use Rattle.macro_meaning.specs.Step.{Macro}
use Rattle.macro_meaning.specs.Programs.{next, instruction, Does, target, moved_to}
use Rattle.macro_meaning.proofs.StepsTaken.{does}

pub jmp_moves_pc_alone : (s : Macro) (request : Bool) → Does 0 s request
    → next s request
    ≡ record {
      machine = moved_to (cond (jump_cond (dest (instruction s)) s.machine.psw) (target s) (inc s.machine.pc)) s.machine;
      memory = s.memory;
    }
unfolding effect jmp update_reg
jmp_moves_pc_alone s request d = does s request d

always : (code : ℕ) (p : Psw) → 14 ≤ code → jump_cond code p ≡ true
unfolding jump_cond
always code p h =
    simp (
      ne_eqb code 0 (λ e. omega arith),
      ne_eqb code 1 (λ e. omega arith),
      ne_eqb code 2 (λ e. omega arith),
      ne_eqb code 3 (λ e. omega arith),
      ne_eqb code 4 (λ e. omega arith),
      ne_eqb code 5 (λ e. omega arith),
      ne_eqb code 6 (λ e. omega arith),
      ne_eqb code 7 (λ e. omega arith),
      ne_eqb code 8 (λ e. omega arith),
      ne_eqb code 9 (λ e. omega arith),
      ne_eqb code 10 (λ e. omega arith),
      ne_eqb code 11 (λ e. omega arith),
      ne_eqb code 12 (λ e. omega arith),
      ne_eqb code 13 (λ e. omega arith),
    )

pub codes_from_14_always_jump : (s : Macro) (request : Bool) → Does 0 s request → 14 ≤ dest (instruction s)
    → next s request ≡ record { machine = moved_to (target s) s.machine; memory = s.memory }
codes_from_14_always_jump s request d h = jmp_moves_pc_alone s request d ∙ ap jumped (always (dest (instruction s)) s.machine.psw h)
  where
    jumped : Bool → Macro
    jumped t = record { machine = moved_to (cond t (target s) (inc s.machine.pc)) s.machine; memory = s.memory }
