-- A refused call leaves board and memory as lent, the PSW's other bits too, and counts nothing. So does 8: its one microcycle was not done.
use Prim.Native.Nat.{ℕ}
use mathlib.Core.Path.{◌≡◌, refl, sym}
use mathlib.Core.Bool.{false, false≢true}
use mathlib.Core.List.{List}
use lib.Dec.{eqb}
use Rattle.micro_meaning.specs.declared.MicroState.{MicroState}
use Rattle.board_meaning.specs.Board.{BoardFound, board_microcycle, board_instruction}
use Rattle.board_meaning.proofs.CallCases.{microcycle_cases, instruction_cases}

abbrev pub RefusedAsLent : MicroState → List ℕ → BoardFound → Type 0
RefusedAsLent board mem call =
    eqb call.answer.number 0 ≡ false
    → (call.board ≡ board) × (call.memory ≡ mem) × (call.answer.microcycles.count ≡ 0) × (call.answer.steps.count ≡ 0)

pub microcycle_refused : (board : MicroState) (program mem : List ℕ) (request : ℕ)
    → RefusedAsLent board mem (board_microcycle board program mem request)
microcycle_refused board program mem request =
    microcycle_cases board program mem request (RefusedAsLent board mem) (λ r. (refl, refl, refl, refl)) (λ r. (refl, refl, refl, refl))
    (λ _ _ _ _ r. absurd (false≢true (sym r)))

pub instruction_refused : (board : MicroState) (mem : List ℕ) (request : ℕ) → RefusedAsLent board mem (board_instruction board mem request)
instruction_refused board mem request =
    instruction_cases board mem request (RefusedAsLent board mem) (λ r. (refl, refl, refl, refl)) (λ _ _ _ _ r. absurd (false≢true (sym r)))
