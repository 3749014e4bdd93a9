-- The tests of a record's place, in their order, give exactly what is said of it without an order.
use Prim.Native.Nat.{ℕ, ◌+◌, ◌*◌, ◌%◌}
use native.Mathlib.Omega.{arith}
use mathlib.Core.Path.{◌≡◌, refl, subst}
use mathlib.Core.Bool.{Bool, true, false, ◌&&◌, cond}
use mathlib.Core.Logic.{◌↔◌}
use lib.Dec.{eqb, leb}
use borrow.Author.Tests.{eqb-true, eqb-false, leb-true, leb-false}
use Rattle.std.specs.Prelude.{Ok, Err}
use Rattle.image_placing.specs.declared.Misfit.TheVariants.{Misplaced, Early}
use Rattle.image_placing.specs.Placing.{Placed, placing, Stands, fits, early, misplaced}

module _ (m end address count : ℕ) where
  -- by the four tests
  found : Stands m end address count (placing m end address count)
  unfolding placing
  found = by_tests (eqb (address % 4) 0) (eqb (count % 4) 0) (leb (address + count) (4 * m)) (leb end address) refl refl refl refl
    where
      by_tests : (a c i o : Bool) → eqb (address % 4) 0 ≡ a → eqb (count % 4) 0 ≡ c → leb (address + count) (4 * m) ≡ i →
          leb end address ≡ o →
          Stands m end address count (cond ((a && c) && i) (cond o (Ok tt) (Err Early)) (Err Misplaced))
      by_tests true true true true e f g h =
          fits
          (record {
            at_a_word = eqb-true (address % 4) 0 e;
            of_words = eqb-true (count % 4) 0 f;
            in_memory = leb-true (address + count)
                (4 * m) g;
          })
          (leb-true end address h)
      by_tests true true true false e f g h =
          early
          (record {
            at_a_word = eqb-true (address % 4) 0 e;
            of_words = eqb-true (count % 4) 0 f;
            in_memory = leb-true (address + count)
                (4 * m) g;
          })
          (leb-false end address h)
      by_tests true true false o e f g h = misplaced (λ w. omega (arith, w.in_memory, leb-false (address + count) (4 * m) g))
      by_tests true false i o e f g h = misplaced (λ w. eqb-false (count % 4) 0 f w.of_words)
      by_tests false c i o e f g h = misplaced (λ w. eqb-false (address % 4) 0 e w.at_a_word)

  -- no two of them hold at once
  same : {p q : Placed} → Stands m end address count p → Stands m end address count q → p ≡ q
  same (fits w o) (fits w2 o2) = refl
  same (fits w o) (early w2 o2) = absurd (omega (arith, o, o2))
  same (fits w o) (misplaced n) = absurd (n w)
  same (early w o) (fits w2 o2) = absurd (omega (arith, o, o2))
  same (early w o) (early w2 o2) = refl
  same (early w o) (misplaced n) = absurd (n w)
  same (misplaced n) (fits w o) = absurd (n w)
  same (misplaced n) (early w o) = absurd (n w)
  same (misplaced n) (misplaced n2) = refl

  pub stands_exactly : (p : Placed) → (placing m end address count ≡ p) ↔ Stands m end address count p
  stands_exactly p = (λ e. subst (Stands m end address count) e found, λ s. same found s)
