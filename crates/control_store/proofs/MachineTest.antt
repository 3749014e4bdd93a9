-- The tests of a machine case by case: 1 and 3 give the answer before the microprogram is looked at.
use Prim.Native.Nat.{ℕ}
use mathlib.Core.Path.{◌≡◌, refl}
use mathlib.Core.Bool.{false}
use mathlib.Core.List.{List}
use Rattle.std.specs.Prelude.{Ok, Err}
use Rattle.std.specs.Result.{result_and}
use Rattle.answers.specs.Ends.{End, is_done}
use Rattle.answers.specs.Tests.{lent_test}
use Rattle.control_store.specs.ControlStore.{store_test, machine_test}

pub machine_refused : (words register_0 : ℕ) (program : List ℕ) → is_done (lent_test words register_0) ≡ false
    → machine_test words register_0 program ≡ lent_test words register_0
unfolding machine_test
machine_refused words register_0 program = go (lent_test words register_0)
  where
    go : (lent : End) → is_done lent ≡ false → result_and lent (store_test program) ≡ lent
    go (Ok _) h = cc
    go (Err refusal) h = refl

-- .. and where they are passed the microprogram's test is the answer
pub the_program : (words register_0 : ℕ) (program : List ℕ) → lent_test words register_0 ≡ Ok tt → machine_test words register_0 program ≡ store_test program
unfolding machine_test
the_program words register_0 program e = rw e
