-- What one microcycle more makes of the survey.
use Prim.Native.Nat.{ℕ, zero, suc}
use mathlib.Core.Path.{◌≡◌, refl}
use mathlib.Core.Bool.{cond}
use mathlib.Core.List.{List}
use Rattle.control_store.specs.Sequencer.{fetch_address}
use Rattle.check_meaning.specs.declared.AddressSet.{AddressSet}
use Rattle.check_meaning.specs.declared.Survey.{Survey}
use Rattle.check_meaning.specs.Meaning.{microcycles}
use Rattle.check_meaning.specs.Survey.{nowhere, has, union, without_fetch, spread, start, advance}

module _ (program : List ℕ) where
  -- what is known after k microcycles
  unfoldable pub after : ℕ → Survey
  after zero = start
  after (suc k) = advance program (microcycles (suc k)) (after k)

  unfoldable pub next : ℕ → AddressSet
  next k = spread 0 program (after k).standing nowhere

  pub standing_next : (k : ℕ) → (after (suc k)).standing ≡ without_fetch (next k)
  unfolding after advance next
  standing_next k = refl

  pub seen_more : (k : ℕ) → (after (suc k)).seen ≡ union (after k).seen (after k).standing
  unfolding after advance
  seen_more k = refl

  pub longest_next : (k : ℕ) → (after (suc k)).longest ≡ cond (has (next k) fetch_address) (microcycles (suc k)) (after k).longest
  unfolding after advance next
  longest_next k = refl
