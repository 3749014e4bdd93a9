-- A run's tests give the numbers 0 to 7 and no other: 8 comes from a microcycle alone.
use Prim.Native.Nat.{ℕ, ◌≤◌}
use native.Mathlib.Omega.{arith}
use mathlib.Core.Bool.{Bool, true, false, cond}
use mathlib.Core.List.{List}
use lib.Dec.{eqb, ltb}
use lib.ListN.{length}
use Rattle.words.specs.Lengths.{legal_length}
use Rattle.words.specs.Registers.{register}
use Rattle.answers.specs.Ends.{End}
use Rattle.std.specs.Prelude.{Ok, Err}
use Rattle.std.specs.Result.{result_and}
use Rattle.answers.specs.declared.Refusal.TheVariants.{MemoryLength, RegisterZero, Outside, Request}
use Rattle.answers.specs.Ends.{shown}
use Rattle.answers.specs.Places.{first_place}
use Rattle.answers.specs.Tests.{lent_test}
use Rattle.control_store.specs.ControlStore.{store_test}
use Rattle.control_store.proofs.StoreTest.{at_most_5}
use Rattle.control_store.specs.ControlStore.{machine_test}
use Rattle.micro_meaning.specs.declared.MicroState.{MicroState}
use Rattle.micro_meaning.specs.Run.{bad_request, micro_test}

number : End → ℕ
number end = (shown end).number

lent_at_most_7 : (words register_0 : ℕ) → number (lent_test words register_0) ≤ 7
unfolding lent_test number
lent_at_most_7 words register_0 = by_tests (legal_length words) (eqb register_0 0)
  where
    by_tests : (a b : Bool) → number (cond a (cond b (Ok tt) (Err RegisterZero)) (Err MemoryLength)) ≤ 7
    by_tests true true = omega arith
    by_tests true false = omega arith
    by_tests false b = omega arith

machine_at_most_7 : (words register_0 : ℕ) (program : List ℕ) → number (machine_test words register_0 program) ≤ 7
unfolding machine_test number
machine_at_most_7 words register_0 program = go (lent_test words register_0) (lent_at_most_7 words register_0)
  where
    go : (lent : End) → number lent ≤ 7 → number (result_and lent (store_test program)) ≤ 7
    go (Ok _) h = let fits = at_most_5 program in omega (arith, fits)
    go (Err refusal) h = h

pub at_most_7 : (words : ℕ) (program : List ℕ) (s : MicroState) (requests : List ℕ) → (shown (micro_test words program s requests)).number ≤ 7
unfolding micro_test number
at_most_7 words program s requests =
    by_tests (machine_test words (register s.registers 0) program) (machine_at_most_7 words (register s.registers 0) program)
    (ltb s.mpc (length program)) (ltb (first_place bad_request requests) (length requests))
  where
    by_tests : (lent : End) → number lent ≤ 7 → (a b : Bool)
        → number (result_and lent (cond a (cond b (Err (Request (first_place bad_request requests))) (Ok tt)) (Err Outside))) ≤ 7
    by_tests (Ok _) h true true = omega arith
    by_tests (Ok _) h true false = omega arith
    by_tests (Ok _) h false b = omega arith
    by_tests (Err refusal) h a b = h
