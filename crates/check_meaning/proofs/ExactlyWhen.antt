-- EACH ANSWER EXACTLY WHEN. Whatever answer r of the checker is meant for a microprogram, it is: accepted with n exactly when the store
-- passes 4 and 5, no walk can leave, every walk is back within 64 and n is the longest walk's length; 17 and 18 with a word exactly when
-- the walks say so; and 4 or 5 exactly when the test of a control store gives them.
use Prim.Native.Nat.{ℕ, ◌≤◌}
use native.Mathlib.Omega.{arith}
use mathlib.Core.Path.{◌≡◌, ap, subst}
use mathlib.Core.Logic.{◌↔◌}
use mathlib.Core.List.{List}
use Rattle.std.specs.Prelude.{Ok, Err}
use Rattle.answers.specs.declared.Microcycles.{Microcycles}
use Rattle.answers.specs.declared.Refusal.{Refusal}
use Rattle.answers.specs.declared.Refusal.TheVariants.{WalkLeaves, WalkNotBack}
use Rattle.answers.specs.Ends.{End, shown, refusal_shown}
use Rattle.control_store.specs.ControlStore.{store_test}
use Rattle.control_store.proofs.StoreTest.{at_most_5}
use Rattle.check_meaning.specs.Meaning.{Checked, Accepted, Leaving, NotBack, microcycles, refusal, acceptance, Meant}
use Rattle.check_meaning.specs.Meaning.Meant.{illegal, leaves, not_back, accepted}
use Rattle.check_meaning.proofs.OneAnswerFits.{one_answer_fits}

module _ (program : List ℕ) where
  -- the test of a control store gives no number above 5
  low : {e : Refusal} → store_test program ≡ Err e → (refusal_shown e).number ≤ 5
  low e = subst (λ (end : End). (shown end).number ≤ 5) e (at_most_5 program)

  only_accepted : {r : Checked} (n : ℕ) → Meant program r → r ≡ acceptance n → (store_test program ≡ Ok tt) × Accepted program n
  only_accepted n (illegal e) q = absurd cc
  only_accepted n (leaves e l) q = absurd cc
  only_accepted n (not_back e l) q = absurd cc
  only_accepted n (accepted {n = k} e l) q =
      let same : microcycles k ≡ microcycles n = cc in (e, subst (Accepted program) (ap (λ (m : Microcycles). m.count) same) l)

  only_leaving : {r : Checked} (a : ℕ) → Meant program r → r ≡ refusal (WalkLeaves a) → (store_test program ≡ Ok tt) × Leaving program a
  only_leaving a (illegal e) q = let same : store_test program ≡ Err (WalkLeaves a) = cc in absurd (omega (arith, low same))
  only_leaving a (leaves e l) q = (e, subst (Leaving program) (cc) l)
  only_leaving a (not_back e l) q = absurd cc
  only_leaving a (accepted e l) q = absurd cc

  only_not_back : {r : Checked} (a : ℕ) → Meant program r → r ≡ refusal (WalkNotBack a) → (store_test program ≡ Ok tt) × NotBack program a
  only_not_back a (illegal e) q = let same : store_test program ≡ Err (WalkNotBack a) = cc in absurd (omega (arith, low same))
  only_not_back a (leaves e l) q = absurd cc
  only_not_back a (not_back e l) q = (e, subst (NotBack program) (cc) l)
  only_not_back a (accepted e l) q = absurd cc

  only_illegal : {r : Checked} (e : Refusal) → (refusal_shown e).number ≤ 5 → Meant program r → r ≡ refusal e → store_test program ≡ Err e
  only_illegal e h (illegal f) q = cc
  only_illegal e h (leaves {a} f l) q = let same : WalkLeaves a ≡ e = cc in absurd (omega (arith, ap (λ (k : Refusal). (refusal_shown k).number) same, h))
  only_illegal e h (not_back {a} f l) q = let same : WalkNotBack a ≡ e = cc in absurd (omega (arith, ap (λ (k : Refusal). (refusal_shown k).number) same, h))
  only_illegal e h (accepted f l) q = absurd cc

  module _ {r : Checked} (meant : Meant program r) where
    pub accepted_exactly : (n : ℕ) → (r ≡ acceptance n) ↔ ((store_test program ≡ Ok tt) × Accepted program n)
    accepted_exactly n = (only_accepted n meant, λ (e, l). one_answer_fits program meant (accepted e l))

    pub leaving_exactly : (a : ℕ) → (r ≡ refusal (WalkLeaves a)) ↔ ((store_test program ≡ Ok tt) × Leaving program a)
    leaving_exactly a = (only_leaving a meant, λ (e, l). one_answer_fits program meant (leaves e l))

    pub not_back_exactly : (a : ℕ) → (r ≡ refusal (WalkNotBack a)) ↔ ((store_test program ≡ Ok tt) × NotBack program a)
    not_back_exactly a = (only_not_back a meant, λ (e, l). one_answer_fits program meant (not_back e l))

    pub illegal_exactly : (e : Refusal) → (refusal_shown e).number ≤ 5 → (r ≡ refusal e) ↔ (store_test program ≡ Err e)
    illegal_exactly e h = (only_illegal e h meant, λ f. one_answer_fits program meant (illegal f))
