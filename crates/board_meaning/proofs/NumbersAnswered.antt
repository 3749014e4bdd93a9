-- Which numbers the two calls can answer. 2 is not among them: a board has all its registers.
use Prim.Native.Nat.{ℕ}
use mathlib.Core.Path.{◌≡◌, refl}
use mathlib.Core.Bool.{Bool, true, false, cond}
use mathlib.Core.List.{List, [], ◌∷◌}
use lib.Dec.{eqb, ltb}
use lib.ListN.{length}
use Rattle.words.specs.Lengths.{legal_length}
use Rattle.words.specs.Registers.{register}
use Rattle.answers.specs.Ends.{End}
use Rattle.std.specs.Prelude.{Ok, Err}
use Rattle.std.specs.Result.{result_and}
use Rattle.answers.specs.declared.Refusal.TheVariants.{MemoryLength, RegisterZero, ProgramLength, Microword, Outside, Request}
use Rattle.answers.specs.Ends.{shown}
use Rattle.answers.specs.Places.{above, first_place}
use Rattle.answers.specs.Tests.{lent_test}
use Rattle.control_store.specs.ControlStore.{legal_store_length, lowest_illegal, store_test}
use Rattle.control_store.specs.ControlStore.{machine_test}
use Rattle.micro_meaning.specs.declared.MicroState.{MicroState}
use Rattle.micro_meaning.specs.Run.{bad_request, micro_test}
use Rattle.macro_meaning.specs.Run.{most_step_request, macro_test}
use Rattle.board_meaning.specs.Board.{BoardFound, board_microcycle, board_instruction}
use Rattle.board_meaning.proofs.CallCases.{micro_tested, macro_tested, microcycle_cases, instruction_cases}

abbrev among : List ℕ → ℕ → Bool
among [] n = false
among (k ∷ ks) n = cond (eqb n k) true (among ks n)

abbrev AnswersAmong : List ℕ → BoardFound → Type 0
AnswersAmong numbers call = among numbers call.answer.number ≡ true

abbrev pub microcycle_numbers : List ℕ
microcycle_numbers = 0 ∷ 1 ∷ 3 ∷ 4 ∷ 5 ∷ 6 ∷ 7 ∷ 8 ∷ []

abbrev pub instruction_numbers : List ℕ
instruction_numbers = 0 ∷ 1 ∷ 3 ∷ 7 ∷ []

-- the tests by what each finds
abbrev lent : Bool → Bool → End
lent memory zero = cond memory (cond zero (Ok tt) (Err RegisterZero)) (Err MemoryLength)

abbrev machine : Bool → Bool → Bool → Bool → ℕ → End
machine memory zero size bad_word word =
    result_and (lent memory zero) (cond size (cond bad_word (Err (Microword word)) (Ok tt)) (Err ProgramLength))

by_micro_tests : (memory zero size bad_word inside bad : Bool) (word place : ℕ)
    → among microcycle_numbers (shown (result_and (machine memory zero size bad_word word)
    (cond inside (cond bad (Err (Request place)) (Ok tt)) (Err Outside)))).number ≡ true
by_micro_tests false zero size bad_word inside bad word place = refl
by_micro_tests true false size bad_word inside bad word place = refl
by_micro_tests true true false bad_word inside bad word place = refl
by_micro_tests true true true true inside bad word place = refl
by_micro_tests true true true false false bad word place = refl
by_micro_tests true true true false true true word place = refl
by_micro_tests true true true false true false word place = refl

by_macro_tests : (memory zero bad : Bool) (place : ℕ)
    → among instruction_numbers (shown (result_and (lent memory zero) (cond bad (Err (Request place)) (Ok tt)))).number ≡ true
by_macro_tests false zero bad place = refl
by_macro_tests true false bad place = refl
by_macro_tests true true true place = refl
by_macro_tests true true false place = refl

module _ (board : MicroState) (program mem : List ℕ) (request : ℕ) where
  micro_refusal : among microcycle_numbers (shown (micro_tested board program mem request)).number ≡ true
  unfolding micro_test machine_test lent_test store_test
  micro_refusal =
      by_micro_tests (legal_length (length mem)) (eqb (register board.registers 0) 0) (legal_store_length (length program))
      (ltb (lowest_illegal program) (length program)) (ltb board.mpc (length program)) (ltb (first_place bad_request (request ∷ [])) 1)
      (lowest_illegal program) (first_place bad_request (request ∷ []))

  pub microcycle_answers : AnswersAmong microcycle_numbers (board_microcycle board program mem request)
  microcycle_answers =
      microcycle_cases board program mem request (AnswersAmong microcycle_numbers) micro_refusal refl (λ _ _ _ _. refl)

module _ (board : MicroState) (mem : List ℕ) (request : ℕ) where
  macro_refusal : among instruction_numbers (shown (macro_tested board mem request)).number ≡ true
  unfolding macro_test lent_test
  macro_refusal =
      by_macro_tests (legal_length (length mem)) (eqb (register board.registers 0) 0)
      (ltb (first_place (above most_step_request) (request ∷ [])) 1) (first_place (above most_step_request) (request ∷ []))

  pub instruction_answers : AnswersAmong instruction_numbers (board_instruction board mem request)
  instruction_answers = instruction_cases board mem request (AnswersAmong instruction_numbers) macro_refusal (λ _ _ _ _. refl)
