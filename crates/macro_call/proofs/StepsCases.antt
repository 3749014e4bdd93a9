-- The call of steps case by case: refused by one of its own tests, or by the level. Either way its number, and everything as lent.
use Prim.Native.Nat.{ℕ}
use mathlib.Core.Path.{◌≡◌, ap}
use mathlib.Core.List.{List}
use lib.ListN.{length}
use Rattle.std.specs.Prelude.{Ok, Err}
use Rattle.answers.specs.declared.Refusal.{Refusal}
use Rattle.macro_meaning.specs.Run.{macro_answer, run}
use Rattle.macro_meaning.proofs.RefusedRuns.{handed_back_refused}
use Rattle.calls.specs.Answers.{refused}
use Rattle.calls.specs.Lending.{first_test, found, tested_first}
use Rattle.macro_call.specs.Steps.{macro_state, avm_steps}
use Rattle.macro_call.proofs.SevenWords.{words_again}

module _ (mem registers state requests : List ℕ) {refusal : Refusal} where
  pub steps_refused : first_test (length mem) (length registers) ≡ Err refusal
      → avm_steps mem registers state requests ≡ found (refused refusal) mem registers state
  unfolding avm_steps
  steps_refused e = rw (e, tested_first)

  pub run_refused : first_test (length mem) (length registers) ≡ Ok tt → length state ≡ 7
      → macro_answer (run mem (macro_state registers state) requests) ≡ Err refusal
      → avm_steps mem registers state requests ≡ found (refused refusal) mem registers state
  unfolding avm_steps
  run_refused passed seven e =
      rw (passed, tested_first, handed_back_refused mem (macro_state registers state) requests e) (ap (found (refused refusal) mem registers) (words_again registers state seven))
