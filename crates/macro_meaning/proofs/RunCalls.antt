-- A run case by case: refused by a test, or run.
use Prim.Native.Nat.{ℕ}
use mathlib.Core.Path.{◌≡◌}
use mathlib.Core.List.{List}
use lib.ListN.{length}
use Rattle.std.specs.Prelude.{Ok, Err}
use Rattle.answers.specs.declared.Refusal.{Refusal}
use Rattle.macro_meaning.specs.Machine.{MacroState, macro_unpacked}
use Rattle.macro_meaning.specs.Run.{macro_test, steps, macro_refused, macro_done, run}

module _ (mem : List ℕ) (s : MacroState) (requests : List ℕ) where
  pub refused : {refusal : Refusal} → macro_test (length mem) s requests ≡ Err refusal → run mem s requests ≡ macro_refused refusal s mem
  unfolding run
  refused e = rw (e, run)

  pub ran : macro_test (length mem) s requests ≡ Ok tt
      → run mem s requests ≡ macro_done (length requests) (steps mem (macro_unpacked s) requests)
  unfolding run
  ran e = rw (e, run)
