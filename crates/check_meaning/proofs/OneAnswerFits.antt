-- No second answer fits a microprogram.
use Prim.Native.Nat.{ℕ}
use native.Mathlib.Omega.{arith}
use mathlib.Core.Path.{◌≡◌, ap}
use mathlib.Core.List.{List}
use Rattle.std.specs.Prelude.{Ok, Err}
use Rattle.answers.specs.declared.Refusal.{Refusal}
use Rattle.answers.specs.declared.Refusal.TheVariants.{WalkLeaves, WalkNotBack}
use Rattle.control_store.specs.ControlStore.{store_test}
use Rattle.check_meaning.specs.Meaning.{Checked, most_microcycles, NoneLeaves, Lowest, Accepted, Leaving, NotBack, refusal, acceptance, Meant}
use Rattle.check_meaning.specs.Meaning.Meant.{illegal, leaves, not_back, accepted}

one_lowest : {Kind : ℕ → Type 0} {a c : ℕ} → Lowest Kind a → Lowest Kind c → a ≡ c
one_lowest {Kind} {a} {c} l m = let up = l.none_lower c m.there in let down = m.none_lower a l.there in omega (arith, up, down)

module _ (program : List ℕ) where
  -- refused 4 or 5, and passed
  not_both : {e : Refusal} → store_test program ≡ Err e → store_test program ≡ Ok tt → ⊥
  not_both e f = absurd cc

  inside : {a : ℕ} → Leaving program a → NoneLeaves program → ⊥
  inside {a} l none = none a l.there

  in_time : {a n : ℕ} → NotBack program a → Accepted program n → ⊥
  in_time {a} l acc = let h = acc.all_back most_microcycles a l.1.there in omega (arith, h)

  pub one_answer_fits : {r s : Checked} → Meant program r → Meant program s → r ≡ s
  one_answer_fits (illegal e) (illegal f) = cc
  one_answer_fits (illegal e) (leaves f m) = absurd (not_both e f)
  one_answer_fits (illegal e) (not_back f m) = absurd (not_both e f)
  one_answer_fits (illegal e) (accepted f m) = absurd (not_both e f)
  one_answer_fits (leaves e l) (illegal f) = absurd (not_both f e)
  one_answer_fits (leaves {a} e l) (leaves {a = c} f m) =
      ap (λ (k : ℕ). refusal (WalkLeaves k)) (one_lowest l m)
  one_answer_fits (leaves e l) (not_back f m) = absurd (inside l m.0)
  one_answer_fits (leaves e l) (accepted f m) = absurd (inside l m.none_leaves)
  one_answer_fits (not_back e l) (illegal f) = absurd (not_both f e)
  one_answer_fits (not_back e l) (leaves f m) = absurd (inside m l.0)
  one_answer_fits (not_back {a} e l) (not_back {a = c} f m) =
      ap (λ (k : ℕ). refusal (WalkNotBack k)) (one_lowest l.1 m.1)
  one_answer_fits (not_back e l) (accepted f m) = absurd (in_time l m)
  one_answer_fits (accepted e l) (illegal f) = absurd (not_both f e)
  one_answer_fits (accepted e l) (leaves f m) = absurd (inside m l.none_leaves)
  one_answer_fits (accepted e l) (not_back f m) = absurd (in_time m l)
  one_answer_fits (accepted {n} e l) (accepted {n = k} f m) =
      let up = m.longest n l.walk in
      let down = l.longest k m.walk in
      ap acceptance (omega (arith, up, down))
