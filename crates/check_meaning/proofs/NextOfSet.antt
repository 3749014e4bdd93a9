-- The next addresses of a set of words: an address is among them exactly if a word of the set leads to it.
use Prim.Native.Nat.{ℕ, zero, suc, ◌+◌, ◌^◌, ◌<◌}
use native.Mathlib.Nat.{add-zero, add-suc, suc-add, not-suc-le-zero, le_of_suc-le-suc}
use native.Mathlib.Omega.{arith}
use mathlib.Core.Path.{◌≡◌, refl, sym, ap, subst, ◌∙◌}
use mathlib.Core.Bool.{Bool, true, false, cond, ◌||◌}
use mathlib.Core.Logic.{◌⊎◌, inl, inr, ⊎_elim}
use mathlib.Core.List.{List, [], ◌∷◌}
use lib.Dec.{eqb}
use lib.ListN.{length, get_or}
use Rattle.words.proofs.Cases.{one_of, or_right}
use Rattle.control_store.specs.Microword.{fields}
use Rattle.control_store.specs.Codes.{jop}
use Rattle.check_meaning.specs.declared.AddressSet.{AddressSet}
use Rattle.check_meaning.specs.Walks.{Leads}
use Rattle.check_meaning.specs.Survey.{nowhere, has, extreme, alone, opcode_words, union, next_set, joined, spread}
use Rattle.check_meaning.proofs.Sets.{has_none, has_union, union_lt, alone_lt}
use Rattle.check_meaning.proofs.PossibleNexts.{in_leads, leads_in}

-- the i-th of the words from `a` on is in the set and leads to b
abbrev pub From : ℕ → List ℕ → AddressSet → ℕ → ℕ → Type 0
From a ws standing b i = (i < length ws) × (has standing (a + i) ≡ true) × Leads (a + i) (get_or ws i 0) b

abbrev pub FromOne : ℕ → List ℕ → AddressSet → ℕ → Type 0
FromOne a ws standing b = (i : ℕ) × From a ws standing b i

module _ (standing : AddressSet) (b : ℕ) where
  -- of the words from the next on it is the one before
  one_further : (a w : ℕ) (ws : List ℕ) → FromOne (suc a) ws standing b → FromOne a (w ∷ ws) standing b
  one_further a w ws (i, (h, t, l)) =
      let e : suc a + i ≡ a + suc i = suc-add a i ∙ sym (add-suc a i) in
      (suc i, (omega (arith, h), rw e at t, subst (λ (k : ℕ). Leads k (get_or ws i 0) b) e l))

  one_nearer : (a w : ℕ) (ws : List ℕ) (i : ℕ) → From a (w ∷ ws) standing b (suc i) → From (suc a) ws standing b i
  one_nearer a w ws i (h, t, l) =
      let e : a + suc i ≡ suc a + i = add-suc a i ∙ sym (suc-add a i) in
      (le_of_suc-le-suc h, rw e at t, subst (λ (k : ℕ). Leads k (get_or ws i 0) b) e l)

  joined_from : (found : AddressSet) (a w : ℕ) (ws : List ℕ) → has (joined found standing a w) b ≡ true → (has found b ≡ true) ⊎ FromOne a (w ∷ ws) standing b
  joined_from found a w ws = by_member (has standing a) refl
    where
      by_member : (t : Bool) → has standing a ≡ t → has (cond t (union found (next_set a w)) found) b ≡ true
          → (has found b ≡ true) ⊎ FromOne a (w ∷ ws) standing b
      by_member true e t =
          ⊎_elim inl (λ n. inr (0, (omega arith, rw add-zero e, subst (λ (k : ℕ). Leads k w b) (sym (add-zero a)) (in_leads a w b n))))
          (one_of (has found b) (has (next_set a w) b) (sym (has_union found (next_set a w) b) ∙ t))
      by_member false e t = inl t

  pub spread_from : (ws : List ℕ) (a : ℕ) (found : AddressSet) → has (spread a ws standing found) b ≡ true → (has found b ≡ true) ⊎ FromOne a ws standing b
  unfolding spread
  spread_from [] a found t = inl t
  spread_from (w ∷ ws) a found t =
      ⊎_elim (joined_from found a w ws) (λ f. inr (one_further a w ws f)) (spread_from ws (suc a) (joined found standing a w) t)

  joined_keeps : (found : AddressSet) (a w : ℕ) → has found b ≡ true → has (joined found standing a w) b ≡ true
  joined_keeps found a w h = by_member (has standing a)
    where
      by_member : (t : Bool) → has (cond t (union found (next_set a w)) found) b ≡ true
      by_member true = has_union found (next_set a w) b ∙ rw h
      by_member false = h

  spread_keeps : (ws : List ℕ) (a : ℕ) (found : AddressSet) → has found b ≡ true → has (spread a ws standing found) b ≡ true
  unfolding spread
  spread_keeps [] a found h = h
  spread_keeps (w ∷ ws) a found h = spread_keeps ws (suc a) (joined found standing a w) (joined_keeps found a w h)

  pub spread_has : (ws : List ℕ) (a : ℕ) (found : AddressSet) → FromOne a ws standing b → has (spread a ws standing found) b ≡ true
  unfolding spread
  spread_has [] a found (i, (h, t, l)) = absurd (not-suc-le-zero h)
  spread_has (w ∷ ws) a found (zero, (h, t, l)) =
      spread_keeps ws (suc a) (joined found standing a w)
      (ap (λ (c : Bool). has (cond c (union found (next_set a w)) found) b) (rw add-zero at t)
      ∙ has_union found (next_set a w) b
      ∙ ap (λ (c : Bool). has found b || c) (leads_in a w b (subst (λ (k : ℕ). Leads k w b) (add-zero a) l)) ∙ or_right (has found b))
  spread_has (w ∷ ws) a found (suc i, f) = spread_has ws (suc a) (joined found standing a w) (i, one_nearer a w ws i f)

-- from nowhere nothing leads anywhere
pub from_nowhere : (ws : List ℕ) (a : ℕ) (found : AddressSet) → spread a ws nowhere found ≡ found
unfolding spread
from_nowhere [] a found = refl
from_nowhere (w ∷ ws) a found =
    ap (λ (b : Bool). spread (suc a) ws nowhere (cond b (union found (next_set a w)) found)) (has_none a) ∙ from_nowhere ws (suc a) found

-- ---- sets of 64 bits
next_set_lt : (a w : ℕ) → (next_set a w).bits < 2 ^ 64
unfolding next_set
next_set_lt a w = by_code (eqb (fields w).cond jop)
  where
    by_code : (o : Bool) → (cond o opcode_words (union (alone (extreme a w false)) (alone (extreme a w true)))).bits < 2 ^ 64
    by_code true = omega arith
    by_code false = union_lt _ _ (alone_lt _) (alone_lt _)

pub spread_lt : (ws : List ℕ) (a : ℕ) (standing found : AddressSet) → found.bits < 2 ^ 64 → (spread a ws standing found).bits < 2 ^ 64
unfolding spread
spread_lt [] a standing found h = h
spread_lt (w ∷ ws) a standing found h = spread_lt ws (suc a) standing (joined found standing a w) (by_member (has standing a))
  where
    by_member : (t : Bool) → (cond t (union found (next_set a w)) found).bits < 2 ^ 64
    by_member true = union_lt found (next_set a w) h (next_set_lt a w)
    by_member false = h
