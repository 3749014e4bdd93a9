-- RETURNS KEEP COMING. From fetch, in any state, with any memory and any requests, the published microprogram makes n returns within 7 n
-- microcycles, for every n.
use Prim.Native.Nat.{ℕ, zero, suc, ◌+◌, ◌*◌, ◌≤◌}
use native.Mathlib.Omega.{arith}
use mathlib.Core.Path.{◌≡◌, refl, sym, ap, subst}
use mathlib.Core.Bool.{Bool, true, not}
use mathlib.Core.List.{List, [], ◌∷◌}
use lib.ListN.{length}
use mir.Val.{bool_byte as num}
use Rattle.words.proofs.FlagNumbers.{num_le}
use Rattle.micro_meaning.specs.declared.MicroMachine.{MicroMachine}
use Rattle.micro_meaning.specs.Run.{RanOn, at_fetch, run_on}
use Rattle.micro_meaning.proofs.RunJoins.{counts_added}
use Rattle.macro_meaning.specs.Step.{Macro}
use Rattle.published.specs.Listing.{published}
use Rattle.published.specs.Clocks.{shows, key}
use Rattle.published.proofs.NeverRefused.{on, from_here}
use Rattle.published.proofs.Due.{Due, after_fetch}
use Rattle.published.proofs.OneReturn.{within_7}
use Rattle.published.proofs.ReturnsAreSteps.{hears, told}

comes : (requests : List ℕ) (c : ℕ) (mem : List ℕ) (s : MicroMachine) (m : Macro) → Due c mem s m → (done returns j : ℕ)
    → c + 7 * j ≤ length requests → returns + suc j ≤ (from_here mem s done returns requests).ran.steps.count
unfolding run_on
comes [] zero mem s m d done returns j h = let one : num (at_fetch s) ≡ 1 = ap num d.0 in omega (arith, one, h)
comes [] (suc c) mem s m d done returns j h = absurd (omega (arith, h))
comes (request ∷ rest) zero mem s m d done returns zero h =
    let r = from_here mem s done returns (request ∷ rest) in
    let all = told (request ∷ rest) zero mem s m d done returns in
    omega (arith, all.counts, ap length (hears mem s request rest d.0), num_le (not (at_fetch r.ran.state)))
comes (request ∷ rest) zero mem s m d done returns (suc j) h =
    let behind = after_fetch mem s d.0 request in
    let one : num (at_fetch s) ≡ 1 = ap num d.0 in
    let there =
    comes rest behind.more _ _ _ behind.due (done + 1) (returns + num (at_fetch s)) j (omega (arith, h, behind.counts, within_7 (key mem s request))) in
    subst (λ (r : RanOn). returns + suc (suc j) ≤ r.ran.steps.count) (sym (on mem s done (returns + num (at_fetch s)) request rest))
    (omega (arith, there, one))
comes (request ∷ rest) (suc c) mem s m d done returns j h =
    let none : num (at_fetch s) ≡ 0 = ap num d.0 in
    let there = comes rest c _ _ m (d.1 request) (done + 1) (returns + num (at_fetch s)) j (omega (arith, h)) in
    subst (λ (r : RanOn). returns + suc j ≤ r.ran.steps.count) (sym (on mem s done (returns + num (at_fetch s)) request rest))
    (omega (arith, there, none))

pub returns_keep_coming : (mem : List ℕ) (s : MicroMachine) → at_fetch s ≡ true → (requests : List ℕ) (n : ℕ) → 7 * n ≤ length requests
    → n ≤ (run_on published mem s 0 0 requests).ran.steps.count
returns_keep_coming mem s at_first requests n h =
    let enough = comes requests 0 mem s (shows mem s) (at_first, refl) 0 0 n (omega (arith, h)) in
    let same = counts_added published requests mem s 0 1 0 0 in
    omega (arith, enough, ap (λ (b : Bool). (run_on published mem s 0 (0 + num b) requests).ran.steps.count) at_first, ap (λ (r : RanOn). r.ran.steps.count) same)
