-- Memory's length and register 0, case by case: the first that fails gives the answer.
use Prim.Native.Nat.{ℕ}
use mathlib.Core.Path.{◌≡◌}
use mathlib.Core.Bool.{Bool, true, false, not}
use borrow.Author.Tests.{eq-eqb, ne_eqb}
use Rattle.words.specs.Lengths.{legal_length}
use Rattle.words.proofs.Cases.{turned, upright}
use Rattle.std.specs.Prelude.{Ok, Err}
use Rattle.answers.specs.declared.Refusal.TheVariants.{MemoryLength, RegisterZero}
use Rattle.answers.specs.Tests.{lent_test}

module _ (words register_0 : ℕ) {legal : Bool} (l : legal ≡ legal_length words) where
  pub memory_length : not legal ≡ true → lent_test words register_0 ≡ Err MemoryLength
  unfolding lent_test
  memory_length h = rw (← l, turned legal h)

  pub register_zero : not legal ≡ false → (register_0 ≡ 0 → ⊥) → lent_test words register_0 ≡ Err RegisterZero
  unfolding lent_test
  register_zero h r = rw (← l, upright legal h, ne_eqb register_0 0 r)

  pub nothing_refused : not legal ≡ false → register_0 ≡ 0 → lent_test words register_0 ≡ Ok tt
  unfolding lent_test
  nothing_refused h r = rw (← l, upright legal h, eq-eqb register_0 0 r)
