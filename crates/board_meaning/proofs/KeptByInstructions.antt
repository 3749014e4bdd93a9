-- An instruction keeps what only the micro level has and the vector, whatever they are and however the call ends.
use Prim.Native.Nat.{ℕ}
use mathlib.Core.Path.{◌≡◌, refl}
use mathlib.Core.List.{List, [], ◌∷◌}
use Rattle.std.specs.Prelude.{Ok, Err}
use Rattle.answers.specs.Ends.{End}
use Rattle.micro_meaning.specs.declared.MicroState.{MicroState}
use Rattle.macro_meaning.specs.Machine.{macro_unpacked}
use Rattle.macro_meaning.specs.Step.{step}
use Rattle.macro_meaning.specs.Run.{steps, macro_done, macro_tested_first, run}
use Rattle.board_meaning.specs.Board.{macro_seen, board_instruction}
use Rattle.board_meaning.proofs.CallCases.{macro_tested}

pub record Kept (board after : MicroState) : Type 0 where
  pub ir : after.ir ≡ board.ir
  pub mar : after.mar ≡ board.mar
  pub mbr : after.mbr ≡ board.mbr
  pub mpc : after.mpc ≡ board.mpc
  pub ivec : after.ivec ≡ board.ivec

pub kept : (board : MicroState) (mem : List ℕ) (request : ℕ) → Kept board (board_instruction board mem request).board
unfolding board_instruction run steps step
kept board mem request = record { ir = refl; mar = refl; mbr = refl; mpc = refl; ivec = by_test (macro_tested board mem request) }
  where
    by_test : (test : End)
        → (macro_tested_first test (macro_seen board) mem (macro_done 1 (steps mem (macro_unpacked (macro_seen board)) (request ∷ [])))).state.ivec
        ≡ board.ivec
    by_test (Ok _) = refl
    by_test (Err refusal) = refl
