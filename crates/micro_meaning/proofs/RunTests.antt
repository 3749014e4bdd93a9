-- A run's tests case by case: the first that fails gives the answer, whatever stands behind it.
use Prim.Native.Nat.{ℕ, ◌<◌, ◌≤◌}
use native.Mathlib.Nat.{le_refl, le_antisymm}
use mathlib.Core.Path.{◌≡◌, refl}
use mathlib.Core.Bool.{Bool, true, false, cond}
use lib.Dec.{ltb}
use mathlib.Core.List.{List}
use lib.ListN.{length}
use borrow.Author.Tests.{lt-ltb, le-ltb, ltb-true, ltb-false}
use Rattle.std.specs.Prelude.{Ok, Err}
use Rattle.std.specs.Result.{result_and}
use Rattle.words.specs.Registers.{register}
use Rattle.answers.specs.declared.Refusal.TheVariants.{Outside, Request}
use Rattle.answers.specs.Ends.{End, is_done}
use Rattle.answers.specs.Places.{first_place}
use Rattle.answers.proofs.FirstPlace.{at_most}
use Rattle.answers.proofs.OneNumberAnEnd.{only_done_is_done}
use Rattle.control_store.specs.ControlStore.{machine_test}
use Rattle.micro_meaning.specs.declared.MicroState.{MicroState}
use Rattle.micro_meaning.specs.Run.{bad_request, micro_test}

-- of two tests in a row
not_passed : (first second : End) → is_done first ≡ false → result_and first second ≡ first
not_passed (Ok _) second h = absurd cc
not_passed (Err refusal) second h = refl

both_passed : (first second : End) → is_done (result_and first second) ≡ true → (is_done first ≡ true) × (is_done second ≡ true)
both_passed (Ok _) second h = (refl, h)
both_passed (Err refusal) second h = absurd cc

module _ (words : ℕ) (program : List ℕ) (s : MicroState) (requests : List ℕ) where
  abbrev lent : End
  lent = machine_test words (register s.registers 0) program

  abbrev place : ℕ
  place = first_place bad_request requests

  abbrev behind : End
  behind = cond (ltb s.mpc (length program)) (cond (ltb place (length requests)) (Err (Request place)) (Ok tt)) (Err Outside)

  pub lent_refused : is_done (machine_test words (register s.registers 0) program) ≡ false
      → micro_test words program s requests ≡ machine_test words (register s.registers 0) program
  unfolding micro_test
  lent_refused h = not_passed lent behind h

  module _ (h : is_done (machine_test words (register s.registers 0) program) ≡ true) where
    pub outside : length program ≤ s.mpc → micro_test words program s requests ≡ Err Outside
    unfolding micro_test
    outside i = rw (only_done_is_done lent h, le-ltb s.mpc (length program) i)

    module _ (i : s.mpc < length program) where
      pub request_refused : first_place bad_request requests < length requests
          → micro_test words program s requests ≡ Err (Request (first_place bad_request requests))
      unfolding micro_test
      request_refused r = rw (only_done_is_done lent h, lt-ltb s.mpc (length program) i, lt-ltb place (length requests) r)

-- a run whose tests pass: what they tell, and what they ask
pub record Fine (words : ℕ) (program : List ℕ) (s : MicroState) (requests : List ℕ) : Type 0 where
  pub lent : is_done (machine_test words (register s.registers 0) program) ≡ true
  pub inside : s.mpc < length program
  pub requests_good : first_place bad_request requests ≡ length requests

pub fine : (words : ℕ) (program : List ℕ) (s : MicroState) (requests : List ℕ) → is_done (micro_test words program s requests) ≡ true → Fine words program s requests
unfolding micro_test
fine words program s requests d =
    let both = both_passed (lent words program s requests) (behind words program s requests) d in
    let rest = by_tests (ltb s.mpc (length program)) refl (ltb (first_place bad_request requests) (length requests)) refl both.1 in
    record { lent = both.0; inside = rest.0; requests_good = rest.1 }
  where
    by_tests : (a : Bool) → ltb s.mpc (length program) ≡ a → (b : Bool) → ltb (first_place bad_request requests) (length requests) ≡ b
        → is_done (cond a (cond b (Err (Request (first_place bad_request requests))) (Ok tt)) (Err Outside)) ≡ true
        → (s.mpc < length program) × (first_place bad_request requests ≡ length requests)
    by_tests true e false f d = (ltb-true _ _ e, le_antisymm (at_most bad_request requests) (ltb-false _ _ f))
    by_tests true e true f d = absurd cc
    by_tests false e b f d = absurd cc

pub fine_done : (words : ℕ) (program : List ℕ) (s : MicroState) (requests : List ℕ) → Fine words program s requests → micro_test words program s requests ≡ Ok tt
unfolding micro_test
fine_done words program s requests f =
    rw (
      only_done_is_done (lent words program s requests) f.lent,
      lt-ltb s.mpc (length program) f.inside,
      f.requests_good,
      le-ltb (length requests) (length requests) (le_refl (length requests)),
    )
