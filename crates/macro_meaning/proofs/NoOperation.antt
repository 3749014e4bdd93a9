-- NOOP, by any of its three opcodes, moves PC alone.
use mathlib.Core.Path.{◌≡◌}
use mathlib.Core.Bool.{Bool}
use mathlib.Core.Logic.{◌⊎◌, inl, inr}
use Rattle.words.specs.Registers.{update_reg}
use Rattle.macro_meaning.specs.Effects.{inc}
use Rattle.macro_meaning.specs.Instructions.{noop, computation, effect}
use Rattle.macro_meaning.specs.Step.{Macro}
use Rattle.macro_meaning.specs.Programs.{next, Does, moved_to}
use Rattle.macro_meaning.proofs.StepsTaken.{does}

pub noop_moves_pc_alone : (s : Macro) (request : Bool) → (Does 12 s request) ⊎ (Does 13 s request) ⊎ (Does 31 s request)
    → next s request ≡ record { machine = moved_to (inc s.machine.pc) s.machine; memory = s.memory }
unfolding effect computation noop update_reg
noop_moves_pc_alone s request (inl d) = does s request d
noop_moves_pc_alone s request (inr (inl d)) = does s request d
noop_moves_pc_alone s request (inr (inr d)) = does s request d
