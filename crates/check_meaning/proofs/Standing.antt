-- After k microcycles of all walks the survey knows exactly: the words on which walks of k microcycles stand, those on which shorter ones
-- stood, and the longest walk that is back by then.
use Prim.Native.Nat.{ℕ, zero, suc, ◌+◌, ◌^◌, ◌<◌, ◌≤◌}
use native.Mathlib.Nat.{zero-add, suc-add, add-suc, not-suc-le-zero, le_of_suc-le-suc, eq-or-lt_of_le}
use native.Mathlib.Numerals.{add-one}
use native.Mathlib.Omega.{arith}
use mathlib.Core.Path.{◌≡◌, refl, sym, ap, subst, ◌∙◌}
use mathlib.Core.Bool.{Bool, true, false, false≢true, cond, ◌||◌}
use mathlib.Core.Logic.{◌⊎◌, inl, inr, ⊎_elim}
use mathlib.Core.List.{List}
use lib.Dec.{eqb-suc-zero}
use lib.Bits.{or_zero_r}
use lib.ListN.{get_or}
use borrow.Author.Tests.{eqb-true}
use Rattle.answers.specs.declared.Microcycles.{Microcycles}
use Rattle.words.proofs.Cases.{one_of, or_right}
use Rattle.control_store.specs.Sequencer.{fetch_address}
use Rattle.check_meaning.specs.declared.AddressSet.{AddressSet}
use Rattle.check_meaning.specs.declared.Survey.{Survey}
use Rattle.check_meaning.specs.Walks.{Leads, PossibleNext, UnderWay, Walk}
use Rattle.check_meaning.specs.Walks.UnderWay.{begun, on}
use Rattle.check_meaning.specs.Walks.Walk.{returned}
use Rattle.check_meaning.specs.Meaning.{microcycles}
use Rattle.check_meaning.specs.Survey.{of_bits, nowhere, has, is_empty, alone, union, without_fetch, advance, survey, rounds, surveyed}
use Rattle.check_meaning.proofs.Sets.{has_none, has_alone, has_union, fetch_left_out, others_kept, union_lt, alone_lt, without_fetch_lt}
use Rattle.check_meaning.proofs.OneMicrocycle.{after, next, standing_next, seen_more, longest_next}
use Rattle.check_meaning.proofs.NextOfSet.{spread_from, spread_has, from_nowhere, spread_lt}

without : (x : AddressSet) (a : ℕ) → (a ≡ fetch_address → ⊥) → has x a ≡ true → has (without_fetch x) a ≡ true
without x zero away t = absurd (away refl)
without x (suc a) away t = others_kept x a ∙ t

module _ (program : List ℕ) where
  -- ---- the words on which walks stand
  abbrev Stepped : ℕ → ℕ → Type 0
  Stepped k b = (a : ℕ) × UnderWay program k a × PossibleNext program a b

  next_stepped : (k b : ℕ) → ((a : ℕ) → has (after program k).standing a ≡ true → UnderWay program k a) → has (next program k) b ≡ true → Stepped k b
  unfolding next
  next_stepped k b sound t =
      ⊎_elim (λ f. absurd (false≢true (sym (has_none b) ∙ f)))
      (λ (i, f). (i, sound i (rw zero-add at f.1), (f.0, subst (λ (a : ℕ). Leads a (get_or program i 0) b) (zero-add i) f.2)))
      (spread_from (after program k).standing b program 0 nowhere t)

  next_has : (k a b : ℕ) → has (after program k).standing a ≡ true → PossibleNext program a b → has (next program k) b ≡ true
  unfolding next
  next_has k a b t n =
      spread_has (after program k).standing b program 0 nowhere
      (a, (n.0, rw zero-add t, subst (λ (i : ℕ). Leads i (get_or program a 0) b) (sym (zero-add a)) n.1))

  at_fetch : has (alone fetch_address) fetch_address ≡ true
  at_fetch = has_alone 0 0 (omega arith)

  pub under_way_standing : {k a : ℕ} → UnderWay program k a → has (after program k).standing a ≡ true
  unfolding after
  under_way_standing begun = at_fetch
  under_way_standing (on {k} {a} {b} u n away) =
      subst (λ (set : AddressSet). has set b ≡ true) (sym (standing_next program k)) (without (next program k) b away (next_has k a b (under_way_standing u) n))

  pub standing_under_way : (k a : ℕ) → has (after program k).standing a ≡ true → UnderWay program k a
  unfolding after
  standing_under_way zero zero t = begun
  standing_under_way zero (suc a) t = absurd (false≢true (sym (has_alone 0 (suc a) (omega arith) ∙ eqb-suc-zero a) ∙ t))
  standing_under_way (suc k) zero t =
      absurd (false≢true (sym (fetch_left_out (next program k)) ∙ subst (λ (set : AddressSet). has set 0 ≡ true) (standing_next program k) t))
  standing_under_way (suc k) (suc a) t =
      let there = sym (others_kept (next program k) a) ∙ subst (λ (set : AddressSet). has set (suc a) ≡ true) (standing_next program k) t in
      let (c, u, n) = next_stepped k (suc a) (standing_under_way k) there in
      on u n (λ e. absurd (omega (arith, e)))

  -- ---- the words on which shorter walks stood
  in_seen : (k a : ℕ) → has (after program (suc k)).seen a ≡ (has (after program k).seen a || has (after program k).standing a)
  in_seen k a = ap (λ (set : AddressSet). has set a) (seen_more program k) ∙ has_union (after program k).seen (after program k).standing a

  pub seen_stood : (k a : ℕ) → has (after program k).seen a ≡ true → (j : ℕ) × (j < k) × UnderWay program j a
  unfolding after
  seen_stood zero a t = absurd (false≢true (sym (has_none a) ∙ t))
  seen_stood (suc k) a t =
      ⊎_elim (λ s. let (j, h, u) = seen_stood k a s in (j, omega (arith, h), u)) (λ s. (k, omega arith, standing_under_way k a s))
      (one_of (has (after program k).seen a) (has (after program k).standing a) (sym (in_seen k a) ∙ t))

  pub stood_seen : (k j a : ℕ) → j < k → UnderWay program j a → has (after program k).seen a ≡ true
  stood_seen zero j a h u = absurd (not-suc-le-zero h)
  stood_seen (suc k) j a h u =
      in_seen k a
      ∙ ⊎_elim
      (λ e. ap (λ (b : Bool). has (after program k).seen a || b) (under_way_standing (subst (λ (i : ℕ). UnderWay program i a) e u)) ∙ or_right (has (after program k).seen a))
      (λ l. rw (stood_seen k j a l u)) (eq-or-lt_of_le (le_of_suc-le-suc h))

  -- ---- the longest walk that is back
  back_walk : (k : ℕ) → has (next program k) fetch_address ≡ true → Walk program (suc k)
  back_walk k t = let (a, u, n) = next_stepped k 0 (standing_under_way k) t in returned u n

  walk_back : (k : ℕ) → Walk program (suc k) → has (next program k) fetch_address ≡ true
  walk_back k (returned u n) = next_has k _ 0 (under_way_standing u) n

  abbrev latest : ℕ → Bool → ℕ
  latest k back = (cond back (microcycles (suc k)) (after program k).longest).count

  pub longest_walk : (k : ℕ) → ((after program k).longest.count ≡ 0) ⊎ Walk program (after program k).longest.count
  unfolding after
  longest_walk zero = inl refl
  longest_walk (suc k) =
      subst (λ (m : Microcycles). (m.count ≡ 0) ⊎ Walk program m.count) (sym (longest_next program k))
      (by_return (has (next program k) fetch_address) (back_walk k) (longest_walk k))
    where
      by_return : (b : Bool) → (b ≡ true → Walk program (suc k)) → ((after program k).longest.count ≡ 0) ⊎ Walk program (after program k).longest.count
          → (latest k b ≡ 0) ⊎ Walk program (latest k b)
      by_return true w rest = inr (w refl)
      by_return false w rest = rest

  pub none_longer : (k n : ℕ) → n ≤ k → Walk program n → n ≤ (after program k).longest.count
  unfolding after
  none_longer zero n h w = h
  none_longer (suc k) n h w =
      subst (λ (m : Microcycles). n ≤ m.count) (sym (longest_next program k)) (by_return (has (next program k) fetch_address) refl (λ l. none_longer k n l w))
    where
      by_return : (b : Bool) → has (next program k) fetch_address ≡ b → (n ≤ k → n ≤ (after program k).longest.count) → n ≤ latest k b
      by_return true e rest = h
      by_return false e rest =
          ⊎_elim (λ q. absurd (false≢true (sym e ∙ walk_back k (subst (Walk program) q w)))) (λ l. rest (le_of_suc-le-suc l)) (eq-or-lt_of_le h)

  -- ---- sets of 64 bits
  next_lt : (k : ℕ) → (next program k).bits < 2 ^ 64
  unfolding next
  next_lt k = spread_lt program 0 (after program k).standing nowhere (omega arith)

  pub standing_lt : (k : ℕ) → (after program k).standing.bits < 2 ^ 64
  unfolding after
  standing_lt zero = alone_lt fetch_address
  standing_lt (suc k) =
      subst (λ (set : AddressSet). set.bits < 2 ^ 64) (sym (standing_next program k)) (without_fetch_lt (next program k) (next_lt k))

  pub seen_lt : (k : ℕ) → (after program k).seen.bits < 2 ^ 64
  unfolding after
  seen_lt zero = omega arith
  seen_lt (suc k) =
      subst (λ (set : AddressSet). set.bits < 2 ^ 64) (sym (seen_more program k)) (union_lt (after program k).seen (after program k).standing (seen_lt k) (standing_lt k))

  -- ---- the survey stops early where no walk is under way: nothing more would be found
  abbrev nobody : AddressSet → Microcycles → Survey
  nobody seen longest = record { standing = nowhere; seen = seen; longest = longest }

  nothing_new : (done : Microcycles) (seen : AddressSet) (longest : Microcycles) → advance program done (nobody seen longest) ≡ nobody seen longest
  unfolding advance union without_fetch
  nothing_new done seen longest = rw (from_nowhere program 0 nowhere, or_zero_r seen.bits, has_none fetch_address)

  at_rest : (done : Microcycles) (s : Survey) → s.standing ≡ nowhere → advance program done s ≡ s
  at_rest done s e =
      subst (λ (set : AddressSet). let t : Survey = record { standing = set; seen = s.seen; longest = s.longest } in advance program done t ≡ t) (sym e)
      (nothing_new done s.seen s.longest)

  stays : (n k : ℕ) → (after program k).standing ≡ nowhere → after program (n + k) ≡ after program k
  unfolding after
  stays zero k e = ap (after program) (zero-add k)
  stays (suc n) k e =
      ap (after program) (suc-add n k) ∙ ap (advance program (microcycles (suc (n + k)))) (stays n k e) ∙ at_rest (microcycles (suc (n + k))) (after program k) e

  one_more : (n k : ℕ) → survey program n (k + 1) (advance program (microcycles (k + 1)) (after program k)) ≡ survey program n (suc k) (after program (suc k))
  unfolding after
  one_more n k = ap (λ (j : ℕ). survey program n j (advance program (microcycles j) (after program k))) (add-one k)

  survey_is : (n k : ℕ) → survey program n k (after program k) ≡ after program (n + k)
  unfolding survey
  survey_is zero k = ap (after program) (sym (zero-add k))
  survey_is (suc n) k = by_test (is_empty (after program k).standing) (λ t. ap of_bits (eqb-true (after program k).standing.bits 0 t)) (one_more n k ∙ survey_is n (suc k) ∙ ap (after program) (add-suc n k ∙ sym (suc-add n k)))
    where
      by_test : (b : Bool) → (b ≡ true → (after program k).standing ≡ nowhere) → survey program n (k + 1) (advance program (microcycles (k + 1)) (after program k)) ≡ after program (suc n + k)
          → cond b (after program k) (survey program n (k + 1) (advance program (microcycles (k + 1)) (after program k))) ≡ after program (suc n + k)
      by_test true f rest = sym (stays (suc n) k (f refl))
      by_test false f rest = rest

  pub surveyed_is : surveyed program ≡ after program rounds
  unfolding after
  surveyed_is = survey_is rounds 0
