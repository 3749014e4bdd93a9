-- Two runs in a row are one run over both lists: the second goes on where the first ended, and the counts are added. Number 8 of the second
-- is included. Then a run that 8 cut short is the run over the requests before the one that was refused.
use Prim.Native.Nat.{ℕ, zero, suc, ◌+◌}
use native.Mathlib.Nat.{add_assoc}
use native.Mathlib.Omega.{arith}
use mathlib.Core.Path.{◌≡◌, refl, sym, ap, subst, ◌∙◌}
use mathlib.Core.Bool.{Bool, true, false, false≢true}
use mathlib.Core.List.{List, [], ◌∷◌, ◌++◌}
use lib.ListN.{take}
use mir.Val.{bool_byte as num}
use Rattle.std.specs.Prelude.{Ok}
use Rattle.answers.specs.Ends.{is_done}
use Rattle.blocks.specs.Memory.{applied}
use Rattle.micro_meaning.specs.declared.MicroMachine.{MicroMachine}
use Rattle.micro_meaning.specs.Microcycle.{microcycle, micro_store, leaves}
use Rattle.micro_meaning.specs.Run.{RanOn, at_fetch, ended, run_on}
use Rattle.micro_meaning.proofs.RunInduction.{goes_on, stops}
use Rattle.micro_meaning.proofs.RunKeeps.{count_at_least}

-- a run that goes on where another ended
abbrev pub on_from : List ℕ → RanOn → List ℕ → RanOn
on_from program r requests = run_on program r.memory r.ran.state r.ran.microcycles.count r.ran.steps.count requests

pub joined : (program xs ys mem : List ℕ) (s : MicroMachine) (done returns : ℕ) → is_done (run_on program mem s done returns xs).ran.end ≡ true
    → run_on program mem s done returns (xs ++ ys) ≡ on_from program (run_on program mem s done returns xs) ys
unfolding run_on
joined program [] ys mem s done returns d = refl
joined program (x ∷ xs) ys mem s done returns d =
    by_case (leaves program s x) refl
    (joined program xs ys (applied (micro_store program s) mem) (microcycle program mem s x) (done + 1)
    (returns + num (at_fetch (microcycle program mem s x)))) d
  where
    on : List ℕ → RanOn
    on rest =
        run_on program (applied (micro_store program s) mem) (microcycle program mem s x) (done + 1)
        (returns + num (at_fetch (microcycle program mem s x))) rest

    by_case : (b : Bool) → leaves program s x ≡ b
        → (is_done (on xs).ran.end ≡ true → on (xs ++ ys) ≡ on_from program (on xs) ys)
        → is_done (run_on program mem s done returns (x ∷ xs)).ran.end ≡ true
        → run_on program mem s done returns (x ∷ (xs ++ ys)) ≡ on_from program (run_on program mem s done returns (x ∷ xs)) ys
    by_case true h ih d = absurd (false≢true (subst (λ (r : RanOn). is_done r.ran.end ≡ true) (stops program mem s done returns x xs h) d))
    by_case false h ih d =
        goes_on program mem s done returns x (xs ++ ys) h
        ∙ ih (subst (λ (r : RanOn). is_done r.ran.end ≡ true) (goes_on program mem s done returns x xs h) d)
        ∙ sym (ap (λ (r : RanOn). on_from program r ys) (goes_on program mem s done returns x xs h))

-- counts that were there before are added to a run's own
abbrev pub counted : ℕ → ℕ → RanOn → RanOn
counted done returns r =
    record {
      ran =
          record {
            end = r.ran.end;
            microcycles = record { count = done + r.ran.microcycles.count };
            steps = record { count = returns + r.ran.steps.count };
            state = r.ran.state;
          };
      memory = r.memory;
    }

pub counts_added : (program requests mem : List ℕ) (s : MicroMachine) (done returns k n : ℕ)
    → run_on program mem s (done + k) (returns + n) requests ≡ counted done returns (run_on program mem s k n requests)
unfolding run_on
counts_added program [] mem s done returns k n = refl
counts_added program (x ∷ xs) mem s done returns k n =
    by_case (leaves program s x) refl
    (counts_added program xs (applied (micro_store program s) mem) (microcycle program mem s x) done returns (k + 1)
    (n + num (at_fetch (microcycle program mem s x))))
  where
    after : ℕ → ℕ → RanOn
    after k' n' = run_on program (applied (micro_store program s) mem) (microcycle program mem s x) k' n' xs

    back : ℕ
    back = num (at_fetch (microcycle program mem s x))

    by_case : (b : Bool) → leaves program s x ≡ b → after (done + (k + 1)) (returns + (n + back)) ≡ counted done returns (after (k + 1) (n + back))
        → run_on program mem s (done + k) (returns + n) (x ∷ xs) ≡ counted done returns (run_on program mem s k n (x ∷ xs))
    by_case true h ih =
        stops program mem s (done + k) (returns + n) x xs h ∙ sym (ap (counted done returns) (stops program mem s k n x xs h))
    by_case false h ih =
        goes_on program mem s (done + k) (returns + n) x xs h
        ∙ ap (λ (i : ℕ). after i (returns + n + back)) (add_assoc done k 1) ∙ ap (λ (i : ℕ). after (done + (k + 1)) i) (add_assoc returns n back)
        ∙ ih ∙ sym (ap (counted done returns) (goes_on program mem s k n x xs h))

-- the same run, with nothing refused
abbrev pub as_done : RanOn → RanOn
as_done r = ended (Ok tt) r.memory r.ran.state r.ran.microcycles.count r.ran.steps.count

-- a run that was cut after j microcycles is the run over its first j requests
pub cut : (program requests mem : List ℕ) (s : MicroMachine) (done returns j : ℕ) → is_done (run_on program mem s done returns requests).ran.end ≡ false
    → (run_on program mem s done returns requests).ran.microcycles.count ≡ done + j
    → run_on program mem s done returns (take j requests) ≡ as_done (run_on program mem s done returns requests)
unfolding run_on
cut program [] mem s done returns j d e = absurd (false≢true (sym d))
cut program (x ∷ xs) mem s done returns j d e =
    by_case (leaves program s x) refl j
    (λ (i : ℕ). cut program xs (applied (micro_store program s) mem) (microcycle program mem s x) (done + 1)
    (returns + num (at_fetch (microcycle program mem s x))) i) d e
  where
    on : List ℕ → RanOn
    on rest =
        run_on program (applied (micro_store program s) mem) (microcycle program mem s x) (done + 1)
        (returns + num (at_fetch (microcycle program mem s x))) rest

    whole : RanOn
    whole = run_on program mem s done returns (x ∷ xs)

    by_case : (b : Bool) → leaves program s x ≡ b → (j : ℕ)
        → ((i : ℕ) → is_done (on xs).ran.end ≡ false → (on xs).ran.microcycles.count ≡ done + 1 + i → on (take i xs) ≡ as_done (on xs))
        → is_done whole.ran.end ≡ false → whole.ran.microcycles.count ≡ done + j → run_on program mem s done returns (take j (x ∷ xs)) ≡ as_done whole
    by_case true h zero ih d e = sym (ap as_done (stops program mem s done returns x xs h))
    by_case true h (suc i) ih d e =
        let none : done ≡ done + suc i = sym (ap (λ (r : RanOn). r.ran.microcycles.count) (stops program mem s done returns x xs h)) ∙ e in
        absurd (omega (arith, none))
    by_case false h zero ih d e =
        let same : (on xs).ran.microcycles.count ≡ done + 0 = sym (ap (λ (r : RanOn). r.ran.microcycles.count) (goes_on program mem s done returns x xs h)) ∙ e in
        let more = count_at_least program xs (applied (micro_store program s) mem) (microcycle program mem s x) (done + 1) (returns + num (at_fetch (microcycle program mem s x))) in
        absurd (omega (arith, same, more))
    by_case false h (suc i) ih d e =
        let went = goes_on program mem s done returns x xs h in
        let same : (on xs).ran.microcycles.count ≡ done + suc i = sym (ap (λ (r : RanOn). r.ran.microcycles.count) went) ∙ e in
        goes_on program mem s done returns x (take i xs) h
        ∙ ih i (subst (λ (r : RanOn). is_done r.ran.end ≡ false) went d) (omega (arith, same))
        ∙ sym (ap as_done went)

-- where no microcycle was done, the machine did not move
pub unmoved : (program requests mem : List ℕ) (s : MicroMachine) (done returns : ℕ) → (run_on program mem s done returns requests).ran.microcycles.count ≡ done
    → (run_on program mem s done returns requests).ran.state ≡ s
unfolding run_on
unmoved program [] mem s done returns e = refl
unmoved program (x ∷ xs) mem s done returns e = by_case (leaves program s x) refl
  where
    by_case : (b : Bool) → leaves program s x ≡ b → (run_on program mem s done returns (x ∷ xs)).ran.state ≡ s
    by_case true h = ap (λ (r : RanOn). r.ran.state) (stops program mem s done returns x xs h)
    by_case false h =
        let same = sym (ap (λ (r : RanOn). r.ran.microcycles.count) (goes_on program mem s done returns x xs h)) ∙ e in
        let more = count_at_least program xs (applied (micro_store program s) mem) (microcycle program mem s x) (done + 1) (returns + num (at_fetch (microcycle program mem s x))) in
        absurd (omega (arith, same, more))
