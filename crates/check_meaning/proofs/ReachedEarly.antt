-- Every word that a walk reaches is reached after fewer than 64 microcycles. For as long as the words seen grow, each microcycle adds one,
-- and there are 64; once a microcycle adds none, nothing new is ever reached.
use Prim.Native.Nat.{ℕ, zero, suc, ◌<◌, ◌≤◌}
use native.Mathlib.Omega.{arith}
use mathlib.Core.Path.{◌≡◌, sym, subst, ◌∙◌}
use mathlib.Core.Bool.{true}
use mathlib.Core.Logic.{◌⊎◌, inl, inr, ⊎_elim}
use mathlib.Core.List.{List}
use lib.Count.{ones, ones-le}
use Rattle.check_meaning.specs.declared.AddressSet.{AddressSet}
use Rattle.check_meaning.specs.Walks.{UnderWay}
use Rattle.check_meaning.specs.Walks.UnderWay.{begun, on}
use Rattle.check_meaning.specs.Meaning.{most_microcycles}
use Rattle.check_meaning.specs.Survey.{has, union}
use Rattle.check_meaning.proofs.Sets.{same_or_more}
use Rattle.check_meaning.proofs.OneMicrocycle.{after, seen_more}
use Rattle.check_meaning.proofs.Standing.{seen_stood, stood_seen, standing_lt, seen_lt}

module _ (program : List ℕ) where
  -- a walk stands on the word after fewer than n microcycles
  abbrev pub Before : ℕ → ℕ → Type 0
  Before n a = (j : ℕ) × (j < n) × UnderWay program j a

  abbrev Settled : ℕ → Type 0
  Settled n = (k a : ℕ) → UnderWay program k a → Before n a

  module _ (n : ℕ) (same : union (after program n).seen (after program n).standing ≡ (after program n).seen) where
    earlier : (j a : ℕ) → j < suc n → UnderWay program j a → Before n a
    earlier j a h u = seen_stood program n a (subst (λ (set : AddressSet). has set a ≡ true) (seen_more program n ∙ same) (stood_seen program (suc n) j a h u))

    settled : {k a : ℕ} → UnderWay program k a → Before n a
    settled begun = earlier 0 0 (omega arith) begun
    settled (on {k} {a} {b} u next away) = let (j, h, v) = settled u in earlier (suc j) b (omega (arith, h)) (on v next away)

  -- what the microcycle after the n-th adds
  added : (n : ℕ) → (ones (after program n).seen.bits < ones (after program (suc n)).seen.bits) ⊎ Settled n
  added n =
      ⊎_elim (λ same. inr (λ k a u. settled n same u)) (λ more. inl (subst (λ (set : AddressSet). ones (after program n).seen.bits < ones set.bits) (sym (seen_more program n)) more))
      (same_or_more (after program n).seen (after program n).standing (seen_lt program n) (standing_lt program n))

  grows : (n : ℕ) → (suc n ≤ ones (after program (suc n)).seen.bits) ⊎ Settled n
  grows zero = ⊎_elim (λ more. inl (omega (arith, more))) inr (added zero)
  grows (suc n) =
      ⊎_elim (λ more. ⊎_elim (λ so_far. inl (omega (arith, more, so_far))) (λ s. inr (λ k a u. let (j, h, v) = s k a u in (j, omega (arith, h), v))) (grows n)) inr
      (added (suc n))

  pub reached_early : {k a : ℕ} → UnderWay program k a → Before most_microcycles a
  reached_early {k} {a} u = ⊎_elim (λ h. absurd (omega (arith, h, ones-le 64 (after program 65).seen.bits (seen_lt program 65)))) (λ s. s k a u) (grows 64)
