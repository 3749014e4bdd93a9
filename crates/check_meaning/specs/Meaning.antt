-- What each answer of the checker says of the walks (the scope, on the control-store checker and on numbers 4, 5, 17 and 18, in this
-- order). Words are counted from 0. Assumes nothing.
use Rattle.std.specs.Prelude.{ℕ, ◌<◌, ◌≤◌, ◌≡◌, List, length, Result, Ok, Err}
use Rattle.answers.specs.declared.Microcycles.{Microcycles}
use Rattle.answers.specs.declared.Refusal.{Refusal}
use Rattle.answers.specs.declared.Refusal.TheVariants.{WalkLeaves, WalkNotBack}
use Rattle.control_store.specs.ControlStore.{store_test}
use Rattle.check_meaning.specs.Walks.{PossibleNext, UnderWay, Walk}

-- the microcycles within which every walk must be back
abbrev pub most_microcycles : ℕ
most_microcycles = 64

-- a walk comes to `a`; where it could leave, `a` may be an address outside
abbrev pub Reached : List ℕ → ℕ → Type 0
Reached program a = (k : ℕ) × UnderWay program k a

-- the word at `a` can lead outside
abbrev pub CanLeave : List ℕ → ℕ → Type 0
CanLeave program a = (b : ℕ) × PossibleNext program a b × (length program ≤ b)

-- a walk comes to the word at `a` and can leave the microprogram from there
abbrev pub Exit : List ℕ → ℕ → Type 0
Exit program a = Reached program a × CanLeave program a

-- no walk can leave the microprogram
abbrev pub NoneLeaves : List ℕ → Type 0
NoneLeaves program = (a : ℕ) → Exit program a → ⊥

-- every walk is back within 64 microcycles, if none can leave: none is under way that has done as many
abbrev pub AllBack : List ℕ → Type 0
AllBack program = (k a : ℕ) → UnderWay program k a → k < most_microcycles

-- the lowest number of a kind
pub record Lowest (Kind : ℕ → Type 0) (a : ℕ) : Type 0 where
  pub there : Kind a
  pub none_lower : (c : ℕ) → Kind c → a ≤ c

-- accepted with `n`: there is a walk of this length and none longer
pub record Accepted (program : List ℕ) (n : ℕ) : Type 0 where
  pub none_leaves : NoneLeaves program
  pub all_back : AllBack program
  pub walk : Walk program n
  pub longest : (k : ℕ) → Walk program k → k ≤ n

-- 17 with `a`
abbrev pub Leaving : List ℕ → ℕ → Type 0
Leaving program a = Lowest (Exit program) a

-- 18 with `a`: a walk stands there after 64 microcycles
abbrev pub NotBack : List ℕ → ℕ → Type 0
NotBack program a = NoneLeaves program × Lowest (UnderWay program most_microcycles) a

abbrev pub microcycles : ℕ → Microcycles
microcycles n = record { count = n }

-- accepted with the longest walk, or refused; a refusal has no length
abbrev pub Checked : Type 0
Checked = Result Microcycles Refusal

abbrev pub refusal : Refusal → Checked
refusal e = Err e

abbrev pub acceptance : ℕ → Checked
acceptance n = Ok (microcycles n)

-- the answers that fit a microprogram: 4 and 5 by the test of a control store, the others by its walks
pub data Meant (program : List ℕ) : Checked → Type 0 where
  illegal : {e : Refusal} → store_test program ≡ Err e → Meant program (refusal e)
  leaves : {a : ℕ} → store_test program ≡ Ok tt → Leaving program a → Meant program (refusal (WalkLeaves a))
  not_back : {a : ℕ} → store_test program ≡ Ok tt → NotBack program a → Meant program (refusal (WalkNotBack a))
  accepted : {n : ℕ} → store_test program ≡ Ok tt → Accepted program n → Meant program (acceptance n)
