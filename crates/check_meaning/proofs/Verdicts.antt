-- THE VERDICT IS WHAT IS MEANT. For every control store, what the survey finds is the answer that the walks ask for.
use Prim.Native.Nat.{ℕ, ◌<◌, ◌≤◌}
use native.Mathlib.Omega.{arith}
use mathlib.Core.Path.{◌≡◌, refl, sym, subst, ◌∙◌}
use mathlib.Core.Bool.{true, false≢true}
use mathlib.Core.Logic.{⊎_elim}
use mathlib.Core.List.{List}
use lib.ListN.{length, get_or}
use Rattle.words.proofs.Cases.{lt_or_le}
use Rattle.std.specs.Prelude.{Option, Some, None, Ok, Err}
use Rattle.answers.specs.declared.Refusal.TheVariants.{WalkLeaves, WalkNotBack}
use Rattle.answers.specs.Ends.{End}
use Rattle.control_store.specs.ControlStore.{store_test}
use Rattle.control_store.specs.Sequencer.{fetch_address}
use Rattle.control_store.proofs.StoreTest.{some_word}
use Rattle.check_meaning.specs.declared.AddressSet.{AddressSet}
use Rattle.check_meaning.specs.declared.Survey.{Survey}
use Rattle.check_meaning.specs.Walks.{UnderWay, Walk}
use Rattle.check_meaning.specs.Walks.UnderWay.{begun}
use Rattle.check_meaning.specs.Walks.Walk.{returned}
use Rattle.check_meaning.specs.Meaning.{most_microcycles, Exit, NoneLeaves, AllBack, Accepted, Leaving, NotBack, refusal, Meant}
use Rattle.check_meaning.specs.Meaning.Meant.{illegal, leaves, not_back, accepted}
use Rattle.check_meaning.specs.Survey.{nowhere, has, lowest, lowest_leaving, surveyed, judged, verdict}
use Rattle.check_meaning.proofs.Sets.{has_none, lowest_of_some, lowest_of_none}
use Rattle.check_meaning.proofs.PossibleNexts.{passes_leads, leads_passes}
use Rattle.check_meaning.proofs.OneMicrocycle.{after}
use Rattle.check_meaning.proofs.Standing.{standing_under_way, under_way_standing, seen_stood, stood_seen, longest_walk, none_longer, standing_lt, surveyed_is}
use Rattle.check_meaning.proofs.ReachedEarly.{reached_early}
use Rattle.check_meaning.proofs.LowestLeaving.{Leaver, lowest_leaves, none_leaves}
use Rattle.check_meaning.proofs.WalksGoOn.{passed_through, comes_back}

module _ (program : List ℕ) where
  -- the survey's end
  abbrev found : Survey
  found = after program most_microcycles

  -- the survey goes on for as many microcycles as a walk may take
  survey_found : surveyed program ≡ found
  survey_found = surveyed_is program

  -- ---- 17
  exit_leaver : (c : ℕ) → Exit program c → Leaver program found.seen c
  exit_leaver c ((k, u), (b, next, outside)) =
      let (j, early, v) = reached_early program u in
      record {
        inside = next.0;
        stood_on = stood_seen program most_microcycles j c early v;
        passing = leads_passes c (get_or program c 0) (length program) b next.1 outside;
      }

  leaver_exit : (c : ℕ) → Leaver program found.seen c → Exit program c
  leaver_exit c l =
      let (j, early, u) = seen_stood program most_microcycles c l.stood_on in
      let (b, leads, outside) = passes_leads c (get_or program c 0) (length program) l.passing in
      ((j, u), (b, (l.inside, leads), outside))

  leaving : {a : ℕ} → lowest_leaving program found.seen ≡ Some a → Leaving program a
  leaving {a} e =
      let (l, least) = lowest_leaves program found.seen e in
      record { there = leaver_exit a l; none_lower = λ c x. least c (exit_leaver c x) }

  inside : lowest_leaving program found.seen ≡ None → NoneLeaves program
  inside e c x = none_leaves program found.seen e c (exit_leaver c x)

  -- ---- 18
  late : NoneLeaves program → {a : ℕ} → lowest found.standing ≡ Some a → NotBack program a
  late none {a} e =
      let (there, least) = lowest_of_some found.standing (standing_lt program most_microcycles) e in
      (none, record { there = standing_under_way program most_microcycles a there; none_lower = λ c u. least c (under_way_standing program u) })

  -- ---- accepted
  all_back : found.standing ≡ nowhere → AllBack program
  all_back none k a u = ⊎_elim (λ h. h) (λ h. absurd (not_there (passed_through program u most_microcycles h))) (lt_or_le k most_microcycles)
    where
      not_there : (c : ℕ) × UnderWay program most_microcycles c → ⊥
      not_there (c, v) = false≢true (sym (has_none c) ∙ subst (λ (set : AddressSet). has set c ≡ true) none (under_way_standing program v))

  in_time : AllBack program → (n : ℕ) → Walk program n → n ≤ most_microcycles
  in_time back n (returned {k} {a} u next) = back k a u

  longest : fetch_address < length program → NoneLeaves program → found.standing ≡ nowhere → Accepted program found.longest.count
  longest some inside none =
      let back = all_back none in
      let (n, l, w) = comes_back program inside some back begun in
      let none_more : (k : ℕ) → Walk program k → k ≤ found.longest.count = λ k v. none_longer program most_microcycles k (in_time back k v) v in
      record {
        none_leaves = inside;
        all_back = back;
        walk = ⊎_elim (λ zero_long. absurd (omega (arith, zero_long, l, none_more n w))) (λ v. v) (longest_walk program most_microcycles);
        longest = none_more;
      }

  -- ---- the verdict
  judged_meant : store_test program ≡ Ok tt → Meant program (judged program found)
  unfolding judged
  judged_meant e = by_leaving (lowest_leaving program found.seen) refl
    where
      by_standing : NoneLeaves program → (o : Option ℕ) → lowest found.standing ≡ o
          → Meant program (elim o [ Some a ↦ refusal (WalkNotBack a) | None ↦ Ok found.longest ])
      by_standing none (Some a) t = not_back e (late none t)
      by_standing none None t = accepted e (longest (some_word program e) none (lowest_of_none found.standing t))

      by_leaving : (o : Option ℕ) → lowest_leaving program found.seen ≡ o
          → Meant program
          (elim o [
            | Some a ↦ refusal (WalkLeaves a)
            | None ↦ elim (lowest found.standing) [ Some a ↦ refusal (WalkNotBack a) | None ↦ Ok found.longest ]
          ])
      by_leaving (Some a) t = leaves e (leaving t)
      by_leaving None t = by_standing (inside t) (lowest found.standing) refl

  pub verdict_meant : Meant program (verdict program)
  unfolding verdict
  verdict_meant = by_test (store_test program) refl
    where
      by_test : (end : End) → store_test program ≡ end
          → Meant program (elim end [ Ok _ ↦ judged program (surveyed program) | Err e ↦ refusal e ])
      by_test (Ok tt) t = subst (λ (s : Survey). Meant program (judged program s)) (sym survey_found) (judged_meant t)
      by_test (Err e) t = illegal t
