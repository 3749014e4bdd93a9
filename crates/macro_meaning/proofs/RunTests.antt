-- A run's tests case by case: the first that fails gives the answer, whatever stands behind it.
use Prim.Native.Nat.{ℕ, ◌<◌, ◌≤◌}
use mathlib.Core.Path.{◌≡◌, refl}
use mathlib.Core.Bool.{true, false}
use mathlib.Core.List.{List}
use lib.ListN.{length}
use borrow.Author.Tests.{lt-ltb, le-ltb}
use Rattle.std.specs.Prelude.{Ok, Err}
use Rattle.std.specs.Result.{result_and}
use Rattle.words.specs.Registers.{register}
use Rattle.answers.specs.declared.Refusal.TheVariants.{Request}
use Rattle.answers.specs.Ends.{End, is_done}
use Rattle.answers.specs.Places.{above, first_place}
use Rattle.answers.specs.Tests.{lent_test}
use Rattle.macro_meaning.specs.Machine.{MacroState}
use Rattle.macro_meaning.specs.Run.{most_step_request, macro_test}

module _ (words : ℕ) (s : MacroState) (requests : List ℕ) where
  abbrev lent : End
  lent = lent_test words (register s.registers 0)

  pub lent_refused : is_done lent ≡ false → macro_test words s requests ≡ lent
  unfolding macro_test
  lent_refused = go lent _
    where
      go : (test behind : End) → is_done test ≡ false → result_and test behind ≡ test
      go (Ok _) behind h = cc
      go (Err refusal) behind h = refl

  lent_passed : is_done lent ≡ true → (behind : End) → result_and lent behind ≡ behind
  lent_passed = go lent
    where
      go : (test : End) → is_done test ≡ true → (behind : End) → result_and test behind ≡ behind
      go (Ok _) h behind = refl
      go (Err refusal) h behind = cc

  module _ (h : is_done lent ≡ true) where
    pub request_refused : first_place (above most_step_request) requests < length requests
        → macro_test words s requests ≡ Err (Request (first_place (above most_step_request) requests))
    unfolding macro_test
    request_refused r = rw (lent_passed h, lt-ltb (first_place (above most_step_request) requests) (length requests) r)

    pub nothing_refused : length requests ≤ first_place (above most_step_request) requests → macro_test words s requests ≡ Ok tt
    unfolding macro_test
    nothing_refused r = rw (lent_passed h, le-ltb (first_place (above most_step_request) requests) (length requests) r)
