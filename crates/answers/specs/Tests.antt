-- What every call of the engine tests first: 1, memory's length, and 3, register 0. Assumes nothing.
use Rattle.std.specs.Prelude.{ℕ, cond, eqb, Ok, Err}
use Rattle.words.specs.Lengths.{legal_length}
use Rattle.answers.specs.declared.Refusal.TheVariants.{MemoryLength, RegisterZero}
use Rattle.answers.specs.Ends.{End}

unfoldable pub lent_test : ℕ → ℕ → End
lent_test words register_0 = cond (legal_length words) (cond (eqb register_0 0) (Ok tt) (Err RegisterZero)) (Err MemoryLength)
