-- The two tests case by case, and what a call may take for granted behind them: there are 32 registers, and all are copied in and out.
use Prim.Native.Nat.{ℕ}
use mathlib.Core.Path.{◌≡◌, refl}
use mathlib.Core.Bool.{Bool, true, false, not, cond}
use mathlib.Core.List.{List}
use lib.Dec.{eqb}
use lib.ListN.{length}
use borrow.Author.Tests.{eq-eqb, ne_eqb}
use Rattle.words.specs.Lengths.{legal_length}
use Rattle.words.proofs.Cases.{turned, upright}
use Rattle.std.specs.Prelude.{Ok, Err}
use Rattle.answers.specs.declared.Refusal.TheVariants.{MemoryLength, RegisterCount}
use Rattle.answers.specs.Ends.{End}
use Rattle.calls.specs.Lending.{register_count, first_test, registers_in, registers_out}

-- ---- the tests
module _ (words count : ℕ) {legal : Bool} (l : legal ≡ legal_length words) where
  pub length_refused : not legal ≡ true → Err MemoryLength ≡ first_test words count
  unfolding first_test
  length_refused h = rw (← l, turned legal h)

  pub count_refused : not legal ≡ false → (count ≡ register_count → ⊥) → Err RegisterCount ≡ first_test words count
  unfolding first_test
  count_refused h n = rw (← l, upright legal h, ne_eqb count register_count n)

  pub both_passed : not legal ≡ false → count ≡ register_count → Ok tt ≡ first_test words count
  unfolding first_test
  both_passed h n = rw (← l, upright legal h, eq-eqb count register_count n)

-- ---- behind the tests
module _ (words : ℕ) (lent : List ℕ) where
  counted : (legal same : Bool) → ◌≡◌ {A = End} (cond legal (cond same (Ok tt) (Err RegisterCount)) (Err MemoryLength)) (Ok tt) → same ≡ true
  counted true true e = refl
  counted true false e = absurd cc
  counted false same e = absurd cc

  pub registers_in_whole : first_test words (length lent) ≡ Ok tt → registers_in lent ≡ lent
  unfolding first_test registers_in
  registers_in_whole passed = rw (counted (legal_length words) (eqb (length lent) register_count) passed)

  pub registers_out_whole : first_test words (length lent) ≡ Ok tt → (registers : List ℕ) → registers_out registers lent ≡ registers
  unfolding first_test registers_out
  registers_out_whole passed registers = rw (counted (legal_length words) (eqb (length lent) register_count) passed)
