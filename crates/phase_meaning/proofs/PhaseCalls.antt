-- A phase call case by case: refused by a test, refused 8, done.
use Prim.Native.Nat.{ℕ}
use mathlib.Core.Path.{◌≡◌, refl}
use mathlib.Core.Bool.{Bool, true, false, cond}
use mathlib.Core.List.{List}
use lib.ListN.{length}
use Rattle.std.specs.Prelude.{Ok, Err}
use Rattle.std.specs.Result.{is_ok}
use Rattle.answers.specs.declared.Refusal.{Refusal}
use Rattle.answers.specs.declared.Refusal.TheVariants.{NextAddress}
use Rattle.answers.specs.Ends.{End}
use Rattle.blocks.specs.Memory.{applied}
use Rattle.phase_meaning.specs.Machine.{PhaseState, phase_unpacked, phase_packed}
use Rattle.phase_meaning.specs.Tests.{phase_test}
use Rattle.phase_meaning.specs.Call.{PhaseCalled, phase_done, stores, leaves, phase_refused, state_after, phase_call}

module _ (program mem : List ℕ) (s : PhaseState) (request : ℕ) where
  pub test_refused : (refusal : Refusal) → phase_test (length mem) program s request ≡ Err refusal
      → phase_call program mem s request ≡ phase_refused refusal mem
  unfolding phase_call
  test_refused refusal e = rw (e, phase_call)

  module _ (e : phase_test (length mem) program s request ≡ Ok tt) where
    pub leaving_refused : leaves (length program) (phase_unpacked s) ≡ true → phase_call program mem s request ≡ phase_refused NextAddress mem
    unfolding phase_call
    leaving_refused l = rw (e, phase_call, l)

    pub went : leaves (length program) (phase_unpacked s) ≡ false
        → phase_call program mem s request
        ≡ record {
          answer = Ok (phase_packed (phase_done program mem (phase_unpacked s) request));
          memory = applied (stores (phase_unpacked s)) mem;
        }
    unfolding phase_call
    went l = rw (e, phase_call, l)

-- a refused call leaves memory and the state as lent
pub as_lent : (program mem : List ℕ) (s : PhaseState) (request : ℕ) → is_ok (phase_call program mem s request).answer ≡ false
    → ((phase_call program mem s request).memory ≡ mem) × (state_after s (phase_call program mem s request).answer ≡ s)
unfolding phase_call
as_lent program mem s request h = go (phase_test (length mem) program s request) (leaves (length program) (phase_unpacked s)) h
  where
    outcome : End → Bool → PhaseCalled
    outcome test leaving =
        elim test [
          | Ok _ ↦
              cond leaving
              (phase_refused NextAddress mem)
              (record {
                answer = Ok (phase_packed (phase_done program mem (phase_unpacked s) request));
                memory = applied (stores (phase_unpacked s)) mem;
              })
          | Err refusal ↦ phase_refused refusal mem
        ]

    go : (test : End) (leaving : Bool) → is_ok (outcome test leaving).answer ≡ false
        → ((outcome test leaving).memory ≡ mem) × (state_after s (outcome test leaving).answer ≡ s)
    go (Err refusal) leaving h = (refl, refl)
    go (Ok _) true h = (refl, refl)
    go (Ok _) false h = absurd cc
