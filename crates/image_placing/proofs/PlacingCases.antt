-- How a record stands, case by case: the first test that fails gives the answer.
use Prim.Native.Nat.{ℕ, ◌+◌, ◌*◌, ◌/◌, ◌%◌, ◌<◌, ◌≤◌}
use native.Mathlib.Omega.{arith}
use mathlib.Core.Path.{◌≡◌}
use borrow.Author.Tests.{eq-eqb, ne_eqb, le-leb, lt-leb}
use Rattle.std.specs.Prelude.{Ok, Err}
use Rattle.image_placing.specs.declared.Misfit.TheVariants.{Misplaced, Early}
use Rattle.image_placing.specs.Placing.{placing}

module _ (m end address count : ℕ) where
  pub address_within_a_word : (address % 4 ≡ 0 → ⊥) → placing m end address count ≡ Err Misplaced
  unfolding placing
  address_within_a_word h = rw (ne_eqb (address % 4) 0 h)

  module _ (a : address % 4 ≡ 0) where
    pub part_of_a_word : (count % 4 ≡ 0 → ⊥) → placing m end address count ≡ Err Misplaced
    unfolding placing
    part_of_a_word h = rw (eq-eqb (address % 4) 0 a, ne_eqb (count % 4) 0 h)

    module _ (c : count % 4 ≡ 0) where
      pub beyond_memory : m < (address + count) / 4 → placing m end address count ≡ Err Misplaced
      unfolding placing
      beyond_memory h = rw (eq-eqb (address % 4) 0 a, eq-eqb (count % 4) 0 c, lt-leb (address + count) (4 * m) (omega arith))

      module _ (inside : (address + count) / 4 ≤ m) where
        fits : address + count ≤ 4 * m
        fits = omega arith

        pub before_the_end : address < end → placing m end address count ≡ Err Early
        unfolding placing
        before_the_end h =
            rw (eq-eqb (address % 4) 0 a, eq-eqb (count % 4) 0 c, le-leb (address + count) (4 * m) fits, lt-leb end address h)

        pub at_its_place : end ≤ address → placing m end address count ≡ Ok tt
        unfolding placing
        at_its_place h =
            rw (eq-eqb (address % 4) 0 a, eq-eqb (count % 4) 0 c, le-leb (address + count) (4 * m) fits, le-leb end address h)
