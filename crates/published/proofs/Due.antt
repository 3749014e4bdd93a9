-- The invariant of all that follows, `Due`: whatever is requested, the first return comes after exactly c microcycles and shows m. Behind the
-- microcycle at fetch it holds of the step that the request at fetch chooses.
use Prim.Native.Nat.{ℕ, zero, suc}
use native.Mathlib.Omega.{arith}
use mathlib.Core.Path.{◌≡◌, refl, ap}
use mathlib.Core.Bool.{Bool, true, false, ◌&&◌}
use mathlib.Core.List.{List}
use borrow.Author.Tests.{eq-eqb, eqb-true}
use Rattle.blocks.specs.Memory.{fetch, applied}
use Rattle.control_store.specs.Sequencer.{fetch_address}
use Rattle.phase_meaning.specs.Phases.{interrupt}
use Rattle.micro_meaning.specs.declared.MicroMachine.{MicroMachine}
use Rattle.micro_meaning.specs.Microcycle.{microcycle, micro_store}
use Rattle.micro_meaning.specs.Run.{at_fetch}
use Rattle.macro_meaning.specs.Step.{Macro, step}
use Rattle.published.specs.Listing.{published}
use Rattle.published.specs.Clocks.{macro_machine, shows, key, cycles}
use Rattle.published.proofs.EveryOpcode.{Returned, returned, one_more, first_return, ahead, computed, cycles_are}

abbrev pub Due : ℕ → List ℕ → MicroMachine → Macro → Type 0
Due zero mem s m = (at_fetch s ≡ true) × (shows mem s ≡ m)
Due (suc c) mem s m = (at_fetch s ≡ false) × ((request : ℕ) → Due c (applied (micro_store published s) mem) (microcycle published mem s request) m)

-- a request, then those of `next`
abbrev before : ℕ → (ℕ → ℕ) → ℕ → ℕ
before request next zero = request
before request next (suc t) = next t

one_less : (r : Returned) (m : Macro) (c : ℕ) → one_more r ≡ returned m (suc c) → r ≡ returned m c
one_less r m c e =
    let shown = ap (λ (x : Returned). x.shown) e in
    let mpc = ap (λ (x : Returned). x.mpc) e in
    let count : r.count ≡ c = omega (arith, ap (λ (x : Returned). x.count) e) in
    λ i. record { shown = shown i; mpc = mpc i; count = count i }

-- what was computed is such a return
pub due_from : (n c : ℕ) (mem : List ℕ) (s : MicroMachine) (m : Macro) → ((next : ℕ → ℕ) → first_return n mem s next ≡ returned m c) → Due c mem s m
due_from zero zero mem s m f =
    (eq-eqb s.mpc fetch_address (ap (λ (x : Returned). x.mpc) (f (λ t. 0))), ap (λ (x : Returned). x.shown) (f (λ t. 0)))
due_from zero (suc c) mem s m f = absurd (omega (arith, ap (λ (x : Returned). x.count) (f (λ t. 0))))
due_from (suc n) c mem s m f =
    by_place (at_fetch s) refl c (λ c' request. due_from n c' (applied (micro_store published s) mem) (microcycle published mem s request) m) f
  where
    by_place : (b : Bool) → at_fetch s ≡ b → (c : ℕ)
        → ((c' request : ℕ) → ((next : ℕ → ℕ) → first_return n (applied (micro_store published s) mem) (microcycle published mem s request) next ≡ returned m c')
        → Due c' (applied (micro_store published s) mem) (microcycle published mem s request) m)
        → ((next : ℕ → ℕ) → first_return (suc n) mem s next ≡ returned m c) → Due c mem s m
    by_place true q zero ih f = (q, ap (λ (x : Returned). x.shown) (rw (q, first_return) at (f (λ t. 0))))
    by_place true q (suc c) ih f = absurd (omega (arith, ap (λ (x : Returned). x.count) (rw (q, first_return) at (f (λ t. 0)))))
    by_place false q zero ih f = absurd (omega (arith, ap (λ (x : Returned). x.count) (rw (q, first_return) at (f (λ t. 0)))))
    by_place false q (suc c) ih f = (q, λ request. ih c request (λ next. one_less _ m c (rw (q, first_return) at (f (before request next)))))

pub record AfterFetch (mem : List ℕ) (s : MicroMachine) (request : ℕ) : Type 0 where
  pub more : ℕ
  pub counts : suc more ≡ cycles (key mem s request)
  pub due : Due more (applied (micro_store published s) mem) (microcycle published mem s request) (step mem (macro_machine s) (interrupt request))

pub after_fetch : (mem : List ℕ) (s : MicroMachine) → at_fetch s ≡ true → (request : ℕ) → AfterFetch mem s request
after_fetch mem s q request =
    record {
      more = ahead (interrupt request && s.psw.ie) (fetch mem s.pc);
      counts = cycles_are (interrupt request) s.psw (fetch mem s.pc);
      due = due_from 6 _ _ _ _ (λ next. computed mem s request next (eqb-true s.mpc fetch_address q));
    }
