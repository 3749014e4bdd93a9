-- The lowest word that was seen and can leave: it was seen and can leave, and no lower one was and can.
use Prim.Native.Nat.{ℕ, ◌<◌, ◌≤◌}
use native.Mathlib.Nat.{zero-add}
use native.Mathlib.Omega.{arith}
use mathlib.Core.Path.{◌≡◌, sym, ap, ap₂, ◌∙◌}
use mathlib.Core.Bool.{Bool, true, false, false≢true, ◌&&◌}
use mathlib.Core.Logic.{⊎_elim}
use mathlib.Core.List.{List}
use lib.ListN.{length, get_or}
use Rattle.std.specs.Prelude.{Some, None}
use Rattle.std.specs.List.{position_or_len, enumerate_from}
use Rattle.std.proofs.lemmas.Grind.{common_steps}
use Rattle.std.proofs.lemmas.List.FromFn.{length-enumerate_from, get_or-enumerate_from}
use Rattle.std.proofs.lemmas.List.Quantifiers.{position-Some}
use Rattle.std.proofs.lemmas.List.Sums.{fails_before_first}
use Rattle.words.proofs.Cases.{lt_or_le, both_of}
use Rattle.check_meaning.specs.declared.AddressSet.{AddressSet}
use Rattle.check_meaning.specs.Survey.{has, passes, lowest_leaving}

module _ (program : List ℕ) (seen : AddressSet) where
  -- the word at `a` was seen and can leave
  pub record Leaver (a : ℕ) : Type 0 where
    pub inside : a < length program
    pub stood_on : has seen a ≡ true
    pub passing : passes (length program) a (get_or program a 0) ≡ true

  abbrev leaves : ℕ × ℕ → Bool
  leaves p = has seen p.0 && passes (length program) p.0 p.1

  abbrev places : List (ℕ × ℕ)
  places = enumerate_from 0 program

  -- the test at a place is that of the word there
  tested : (a : ℕ) → a < length program → leaves (get_or places a (0, 0)) ≡ (has seen a && passes (length program) a (get_or program a 0))
  tested a h = ap leaves (get_or-enumerate_from 0 program a (0, 0) h) ∙ rw (zero-add a)

  passed_over : (c : ℕ) → Leaver c → leaves (get_or places c (0, 0)) ≡ false → ⊥
  passed_over c l f = false≢true (sym f ∙ tested c l.inside ∙ ap₂ ◌&&◌ l.stood_on l.passing)

  pub lowest_leaves : {a : ℕ} → lowest_leaving program seen ≡ Some a → Leaver a × ((c : ℕ) → Leaver c → a ≤ c)
  unfolding lowest_leaving
  lowest_leaves {a} e =
      let (h, t, below) = position-Some leaves places a (0, 0) e in
      let inside : a < length program = omega (arith, h, length-enumerate_from 0 program) in
      let (stood_on, passing) = both_of (has seen a) (passes (length program) a (get_or program a 0)) (sym (tested a inside) ∙ t) in (
        record { inside = inside; stood_on = stood_on; passing = passing },
        λ c l. ⊎_elim (λ k. absurd (passed_over c l (below c k))) (λ k. k) (lt_or_le c a),
      )

  pub none_leaves : lowest_leaving program seen ≡ None → (c : ℕ) → Leaver c → ⊥
  unfolding lowest_leaving
  none_leaves e c l =
      let all : length places ≤ position_or_len leaves places = grind (arith, common_steps) in
      let inside = l.inside in
      passed_over c l (fails_before_first leaves places c (0, 0) (omega (arith, all, inside, length-enumerate_from 0 program)))
