-- A call case by case: refused by a test, with everything as lent; a microcycle that would leave the microprogram, with everything as lent
-- too; or done. What holds in each case holds of the call.
use Prim.Native.Nat.{ℕ}
use mathlib.Core.Bool.{Bool, true, false, cond}
use mathlib.Core.List.{List, [], ◌∷◌}
use lib.ListN.{length}
use Rattle.answers.specs.Ends.{End}
use Rattle.std.specs.Prelude.{Ok, Err}
use Rattle.answers.specs.declared.Refusal.TheVariants.{NextAddress}
use Rattle.answers.specs.Ends.{is_done}
use Rattle.calls.specs.Answers.{answered}
use Rattle.micro_meaning.specs.declared.MicroMachine.{MicroMachine}
use Rattle.micro_meaning.specs.Microcycle.{leaves}
use Rattle.micro_meaning.specs.declared.MicroState.{MicroState}
use Rattle.micro_meaning.specs.Machine.{micro_unpacked, micro_packed}
use Rattle.micro_meaning.specs.Run as micro
use Rattle.macro_meaning.specs.Machine as machine
use Rattle.macro_meaning.specs.Run as macro
use Rattle.board_meaning.specs.Board.{BoardFound, board_found, macro_seen, microcycle_found, instruction_found, board_microcycle, board_instruction}

-- an end with so many microcycles and steps, on this board and memory
abbrev pub ended : End → ℕ → ℕ → MicroState → List ℕ → BoardFound
ended end microcycles steps board mem = board_found (answered end (record { count = microcycles }) (record { count = steps })) board mem

abbrev pub refused_with : End → MicroState → List ℕ → BoardFound
refused_with end board mem = ended end 0 0 board mem

abbrev pub DoneAnyhow : (BoardFound → Type 0) → Type 0
DoneAnyhow P = (microcycles steps : ℕ) (board : MicroState) (mem : List ℕ) → P (ended (Ok tt) microcycles steps board mem)

module _ (board : MicroState) (program mem : List ℕ) (request : ℕ) where
  abbrev pub micro_tested : End
  micro_tested = micro.micro_test (length mem) program board (request ∷ [])

  pub microcycle_cases : (P : BoardFound → Type 0)
      → P (refused_with micro_tested board mem) → P (refused_with (Err NextAddress) board mem) → DoneAnyhow P → P (board_microcycle board program mem request)
  unfolding board_microcycle micro.run micro.run_on
  microcycle_cases P refused leaving done = by_test (is_done micro_tested)
    where
      by_leaving : (b : Bool) (after : List ℕ) (s : MicroMachine) (microcycles steps : ℕ)
          → P (microcycle_found (micro.answered board
          (cond b (micro.ended (Err NextAddress) mem (micro_unpacked board) 0 0) (micro.ended (Ok tt) after s microcycles steps))))
      by_leaving true after s microcycles steps = leaving
      by_leaving false after s microcycles steps = done microcycles steps (micro_packed s) after

      by_test : (b : Bool)
          → P (microcycle_found (cond b (micro.answered board (micro.run_on program mem (micro_unpacked board) 0 0 (request ∷ [])))
          (micro.micro_refused micro_tested board mem)))
      by_test true = by_leaving (leaves program (micro_unpacked board) request) _ _ _ _
      by_test false = refused

module _ (board : MicroState) (mem : List ℕ) (request : ℕ) where
  abbrev pub macro_tested : End
  macro_tested = macro.macro_test (length mem) (macro_seen board) (request ∷ [])

  pub instruction_cases : (P : BoardFound → Type 0) → P (refused_with macro_tested board mem) → DoneAnyhow P
      → P (board_instruction board mem request)
  unfolding board_instruction macro.run
  instruction_cases P refused done = by_test macro_tested refused
    where
      by_test : (test : End) → P (refused_with test board mem)
          → P (instruction_found board (macro.macro_tested_first test (macro_seen board) mem
          (macro.macro_done 1 (macro.steps mem (machine.macro_unpacked (macro_seen board)) (request ∷ [])))))
      by_test (Ok _) r = done 0 1 _ _
      by_test (Err refusal) r = r
