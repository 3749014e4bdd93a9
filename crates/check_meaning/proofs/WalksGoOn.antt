-- A walk under way passed through every count of microcycles below its own; and where no walk can leave and all are back in time, it comes
-- back, after more microcycles than it has done.
use Prim.Native.Nat.{ℕ, zero, suc, ◌+◌, ◌<◌, ◌≤◌}
use native.Mathlib.Nat.{le_of_suc-le-suc, eq-or-lt_of_le, not-suc-le-zero}
use native.Mathlib.Omega.{arith}
use mathlib.Core.Path.{◌≡◌, refl, sym, subst}
use mathlib.Core.Bool.{false}
use mathlib.Core.Logic.{◌⊎◌, inl, inr, ⊎_elim}
use mathlib.Core.List.{List}
use lib.ListN.{length, get_or}
use Rattle.words.proofs.Cases.{lt_or_le}
use Rattle.control_store.specs.Sequencer.{fetch_address}
use Rattle.check_meaning.specs.Walks.{PossibleNext, UnderWay, Walk}
use Rattle.check_meaning.specs.Walks.UnderWay.{begun, on}
use Rattle.check_meaning.specs.Walks.Walk.{returned}
use Rattle.check_meaning.specs.Meaning.{most_microcycles, NoneLeaves, AllBack}
use Rattle.check_meaning.specs.Survey.{extreme}
use Rattle.check_meaning.proofs.PossibleNexts.{low_leads}

at_fetch_or_not : (a : ℕ) → (a ≡ fetch_address) ⊎ (a ≡ fetch_address → ⊥)
at_fetch_or_not zero = inl refl
at_fetch_or_not (suc a) = inr (λ e. absurd (omega (arith, e)))

module _ (program : List ℕ) where
  pub passed_through : {k a : ℕ} → UnderWay program k a → (j : ℕ) → j ≤ k → (c : ℕ) × UnderWay program j c
  passed_through begun zero h = (fetch_address, begun)
  passed_through begun (suc j) h = absurd (not-suc-le-zero h)
  passed_through (on {k} {a} {b} u next away) j h =
      ⊎_elim (λ e. (b, subst (λ (i : ℕ). UnderWay program i b) (sym e) (on u next away))) (λ l. passed_through u j (le_of_suc-le-suc l)) (eq-or-lt_of_le h)

  module _ (none_leaves : NoneLeaves program) (some : fetch_address < length program) where
    -- a possible next address of a word that is reached is inside
    pub stays_inside : {k a b : ℕ} → UnderWay program k a → PossibleNext program a b → b < length program
    stays_inside {k} {a} {b} u next = ⊎_elim (λ h. h) (λ h. absurd (none_leaves a ((k, u), (b, next, h)))) (lt_or_le b (length program))

    pub inside : {k a : ℕ} → UnderWay program k a → a < length program
    inside begun = some
    inside (on u next away) = stays_inside u next

    module _ (all_back : AllBack program) where
      within : (fuel k a : ℕ) → UnderWay program k a → most_microcycles ≤ k + fuel → (n : ℕ) × (k < n) × Walk program n
      within zero k a u h = absurd (omega (arith, h, all_back k a u))
      within (suc fuel) k a u h =
          let b = extreme a (get_or program a 0) false in
          let next : PossibleNext program a b = (inside u, low_leads a (get_or program a 0)) in
          ⊎_elim (λ e. (suc k, omega arith, returned u (subst (PossibleNext program a) e next)))
          (λ away. let (n, l, w) = within fuel (suc k) b (on u next away) (omega (arith, h)) in (n, omega (arith, l), w)) (at_fetch_or_not b)

      pub comes_back : {k a : ℕ} → UnderWay program k a → (n : ℕ) × (k < n) × Walk program n
      comes_back {k} {a} u = within most_microcycles k a u (omega arith)
