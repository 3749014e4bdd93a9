-- The call of a run that is refused by a test: its answer is the test's number, with everything as lent.
use Prim.Native.Nat.{ℕ}
use mathlib.Core.Path.{◌≡◌}
use mathlib.Core.List.{List}
use lib.ListN.{length}
use Rattle.std.specs.Prelude.{Err}
use Rattle.answers.specs.declared.Refusal.{Refusal}
use Rattle.calls.specs.Answers.{refused}
use Rattle.calls.specs.Lending.{first_test, found, tested_first}
use Rattle.micro_call.specs.Runs.{avm_run}

pub run_refused : (program mem registers state requests : List ℕ) {refusal : Refusal} → first_test (length mem) (length registers) ≡ Err refusal
    → avm_run program mem registers state requests ≡ found (refused refusal) mem registers state
unfolding avm_run
run_refused program mem registers state requests e = rw (e, tested_first)
