-- The set of next addresses is exactly what a word can lead to; and a word has a possible next address outside exactly if one of its two
-- extremes is outside.
use Prim.Native.Nat.{ℕ, ◌+◌, ◌-◌, ◌%◌, ◌^◌, ◌<◌, ◌≤◌}
use native.Mathlib.Omega.{arith}
use mathlib.Core.Path.{◌≡◌, refl, sym, ap, subst, ◌∙◌}
use mathlib.Core.Bool.{Bool, true, false, cond, ◌&&◌, ◌||◌}
use mathlib.Core.Logic.{◌⊎◌, inl, inr, ⊎_elim}
use lib.Dec.{eqb, leb}
use borrow.Author.Tests.{eqb-true, eqb-false, eq-eqb, leb-true, le-leb}
use Rattle.words.proofs.Cases.{one_of, or_right}
use Rattle.words.proofs.FieldBounds.{field_lt}
use Rattle.control_store.specs.Microword.{fields}
use Rattle.control_store.specs.Codes.{step, jmp, jop, jint, jsm}
use Rattle.control_store.specs.Sequencer.{add_bt6, mpc_unit}
use Rattle.control_store.proofs.SixBits.{next_lt}
use Rattle.check_meaning.specs.declared.AddressSet.{AddressSet}
use Rattle.check_meaning.specs.Walks.{next_of, Leads}
use Rattle.check_meaning.specs.Survey.{has, extreme, alone, opcode_words, union, next_set, passes}
use Rattle.check_meaning.proofs.Sets.{has_union, has_alone, has_opcode_words, in_opcode_words}

module _ (a w : ℕ) where
  -- MPC_UNIT's choice, by its five tests of the code, then by what the two conditional jumps ask for
  abbrev next_by : Bool → Bool → Bool → Bool → Bool → Bool → Bool → ℕ → ℕ
  next_by s j o i m t v opcode =
      cond s (add_bt6 a 1)
      (cond j (fields w).addr
      (cond o (add_bt6 opcode 4)
      (cond i (cond t (fields w).addr (add_bt6 a 1)) (cond m (cond v (fields w).addr (add_bt6 a 1)) (add_bt6 a 1)))))

  -- whatever the sequencer reads, it gives one of the two extremes, or `jop` goes by the opcode
  abbrev ExtremeOrOpcode : ℕ → ℕ → ℕ → ℕ → Type 0
  ExtremeOrOpcode opcode n low high = (n ≡ low) ⊎ ((n ≡ high) ⊎ (((fields w).cond ≡ jop) × (n ≡ add_bt6 opcode 4)))

  extreme_or_opcode : (opcode : ℕ) (ireq ie sm : Bool) → ExtremeOrOpcode opcode (next_of a w opcode ireq ie sm) (extreme a w false) (extreme a w true)
  unfolding mpc_unit
  extreme_or_opcode opcode ireq ie sm =
      let code = (fields w).cond in
      by_code (eqb code step) (eqb code jmp) (eqb code jop) (eqb-true code jop) (eqb code jint) (eqb code jsm) (ireq && ie) sm
    where
      by_code : (s j o : Bool) → (o ≡ true → (fields w).cond ≡ jop) → (i m t v : Bool)
          → ExtremeOrOpcode opcode (next_by s j o i m t v opcode) (next_by s j o i m false false 0) (next_by s j o i m true true 31)
      by_code true j o f i m t v = inl refl
      by_code false true o f i m t v = inl refl
      by_code false false true f i m t v = inr (inr (f refl, refl))
      by_code false false false f true m true v = inr (inl refl)
      by_code false false false f true m false v = inl refl
      by_code false false false f false true t true = inr (inl refl)
      by_code false false false f false true t false = inl refl
      by_code false false false f false false t v = inl refl

  extreme_lt : (b : Bool) → extreme a w b < 2 ^ 6
  extreme_lt b = next_lt _ _ _ _ b b b (field_lt w 0 6)

  -- what the extremes are instances of
  pub low_leads : Leads a w (extreme a w false)
  low_leads = record { opcode = 0; five_bits = omega arith; ireq = false; ie = false; sm = false; gives = refl }

  high_leads : Leads a w (extreme a w true)
  high_leads = record { opcode = 31; five_bits = omega arith; ireq = true; ie = true; sm = true; gives = refl }

  by_jop : (opcode : ℕ) (ireq ie sm : Bool) → (fields w).cond ≡ jop → next_of a w opcode ireq ie sm ≡ add_bt6 opcode 4
  unfolding mpc_unit
  by_jop opcode ireq ie sm e = rw e

  -- ---- members of the set
  two : AddressSet
  two = union (alone (extreme a w false)) (alone (extreme a w true))

  in_two : (b : ℕ) → has two b ≡ (eqb b (extreme a w false) || eqb b (extreme a w true))
  unfolding two
  in_two b =
      has_union (alone (extreme a w false)) (alone (extreme a w true)) b
      ∙ rw (has_alone (extreme a w false) b (extreme_lt false), has_alone (extreme a w true) b (extreme_lt true))

  abbrev chosen : Bool → AddressSet
  chosen by_opcode = cond by_opcode opcode_words two

  next_set_is : next_set a w ≡ chosen (eqb (fields w).cond jop)
  unfolding next_set two
  next_set_is = refl

  two_leads : (b : ℕ) → has two b ≡ true → Leads a w b
  two_leads b t =
      ⊎_elim (λ e. subst (Leads a w) (sym (eqb-true b (extreme a w false) e)) low_leads) (λ e. subst (Leads a w) (sym (eqb-true b (extreme a w true) e)) high_leads)
      (one_of (eqb b (extreme a w false)) (eqb b (extreme a w true)) (sym (in_two b) ∙ t))

  opcode_leads : (b : ℕ) → (fields w).cond ≡ jop → has opcode_words b ≡ true → Leads a w b
  unfolding add_bt6
  opcode_leads b e t =
      let range = in_opcode_words b t in
      record {
        opcode = b - 4;
        five_bits = omega (arith, range.0, range.1);
        ireq = false;
        ie = false;
        sm = false;
        gives = by_jop (b - 4) false false false e ∙ omega (arith, range.0, range.1);
      }

  pub in_leads : (b : ℕ) → has (next_set a w) b ≡ true → Leads a w b
  in_leads b t = by_code (eqb (fields w).cond jop) (eqb-true (fields w).cond jop) (sym (ap (λ (set : AddressSet). has set b) next_set_is) ∙ t)
    where
      by_code : (o : Bool) → (o ≡ true → (fields w).cond ≡ jop) → has (chosen o) b ≡ true → Leads a w b
      by_code true f t = opcode_leads b (f refl) t
      by_code false f t = two_leads b t

  opcode_in : (opcode : ℕ) → opcode < 2 ^ 5 → has opcode_words (add_bt6 opcode 4) ≡ true
  unfolding add_bt6
  opcode_in opcode h = ap (has opcode_words) four_up ∙ has_opcode_words (opcode + 4) (omega arith) (omega arith)
    where
      four_up : (opcode + 4) % 2 ^ 6 ≡ opcode + 4
      four_up = omega arith

  pub leads_in : (b : ℕ) → Leads a w b → has (next_set a w) b ≡ true
  leads_in b l = ap (λ (set : AddressSet). has set b) next_set_is ∙ by_code (eqb (fields w).cond jop) refl
    where
      by_way : eqb (fields w).cond jop ≡ false
          → ExtremeOrOpcode l.opcode (next_of a w l.opcode l.ireq l.ie l.sm) (extreme a w false) (extreme a w true) → has two b ≡ true
      by_way t (inl e) = in_two b ∙ rw (eq-eqb b (extreme a w false) (sym l.gives ∙ e))
      by_way t (inr (inl e)) = in_two b ∙ rw (eq-eqb b (extreme a w true) (sym l.gives ∙ e), or_right)
      by_way t (inr (inr (j, e))) = absurd (eqb-false (fields w).cond jop t j)

      by_code : (o : Bool) → eqb (fields w).cond jop ≡ o → has (chosen o) b ≡ true
      by_code true t =
          subst (λ (k : ℕ). has opcode_words k ≡ true) (sym (by_jop l.opcode l.ireq l.ie l.sm (eqb-true (fields w).cond jop t)) ∙ l.gives)
          (opcode_in l.opcode l.five_bits)
      by_code false t = by_way t (extreme_or_opcode l.opcode l.ireq l.ie l.sm)

  -- ---- the limit
  pub passes_leads : (limit : ℕ) → passes limit a w ≡ true → (b : ℕ) × Leads a w b × (limit ≤ b)
  unfolding passes
  passes_leads limit t =
      ⊎_elim (λ e. (extreme a w false, low_leads, leb-true limit (extreme a w false) e)) (λ e. (extreme a w true, high_leads, leb-true limit (extreme a w true) e))
      (one_of (leb limit (extreme a w false)) (leb limit (extreme a w true)) t)

  pub leads_passes : (limit b : ℕ) → Leads a w b → limit ≤ b → passes limit a w ≡ true
  unfolding passes add_bt6
  leads_passes limit b l h = by_way (extreme_or_opcode l.opcode l.ireq l.ie l.sm)
    where
      at_high : limit ≤ extreme a w true → (leb limit (extreme a w false) || leb limit (extreme a w true)) ≡ true
      at_high k = rw (le-leb limit (extreme a w true) k, or_right)

      by_way : ExtremeOrOpcode l.opcode (next_of a w l.opcode l.ireq l.ie l.sm) (extreme a w false) (extreme a w true)
          → (leb limit (extreme a w false) || leb limit (extreme a w true)) ≡ true
      by_way (inl e) = rw (le-leb limit (extreme a w false) (subst (λ (k : ℕ). limit ≤ k) (sym l.gives ∙ e) h))
      by_way (inr (inl e)) = at_high (subst (λ (k : ℕ). limit ≤ k) (sym l.gives ∙ e) h)
      by_way (inr (inr (j, e))) =
          let top = by_jop 31 true true true j in
          let here = sym l.gives ∙ e in
          let five = l.five_bits in
          at_high (subst (λ (k : ℕ). limit ≤ k) (sym top) (omega (arith, h, here, five)))
