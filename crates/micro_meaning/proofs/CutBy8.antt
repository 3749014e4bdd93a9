-- A call that answers 8 after k microcycles is the call over its first k bytes, but for the PSW when k is 0: the shorter call drops its
-- other bits, the cut one gives it back as lent.
use Prim.Native.Nat.{ℕ}
use native.Mathlib.Nat.{zero-add}
use native.Mathlib.Omega.{arith}
use mathlib.Core.Path.{◌≡◌, refl, sym, ap, subst, ◌∙◌}
use mathlib.Core.Bool.{Bool, true, false, cond}
use mathlib.Core.List.{List}
use lib.Dec.{eqb}
use lib.ListN.{length, take}
use borrow.Author.Tests.{eqb-true}
use Rattle.std.specs.Prelude.{Ok}
use Rattle.answers.specs.Ends.{is_done, shown}
use Rattle.answers.proofs.FirstPlace.{none_in_front}
use Rattle.answers.proofs.OneNumberAnEnd.{done_is_0}
use Rattle.micro_meaning.specs.declared.MicroState.{MicroState}
use Rattle.micro_meaning.specs.Machine.{micro_unpacked, micro_packed}
use Rattle.micro_meaning.specs.Run.{RanOn, MicroCalled, bad_request, micro_test, run_on, answered, micro_refused, run}
use Rattle.micro_meaning.proofs.RunJoins.{cut, unmoved}
use Rattle.micro_meaning.proofs.RunTests.{Fine, fine}
use Rattle.micro_meaning.proofs.TestNumbers.{at_most_7}
use Rattle.micro_meaning.proofs.RunsInARow.{as_run}

module _ (program mem : List ℕ) (s : MicroState) (requests : List ℕ) where
  abbrev whole : RanOn
  whole = run_on program mem (micro_unpacked s) 0 0 requests

  -- the call's tests passed, and its run was not done
  cut_short : (shown (run program mem s requests).answer.end).number ≡ 8 → Fine (length mem) program s requests × (is_done whole.ran.end ≡ false)
  unfolding run
  cut_short e = by_test (is_done (micro_test (length mem) program s requests)) refl e
    where
      by_test : (b : Bool) → is_done (micro_test (length mem) program s requests) ≡ b
          → (shown (cond b (answered s whole) (micro_refused (micro_test (length mem) program s requests) s mem)).answer.end).number ≡ 8
          → Fine (length mem) program s requests × (is_done whole.ran.end ≡ false)
      by_test true t e = (fine (length mem) program s requests t, done_is_0 whole.ran.end ∙ ap (λ (n : ℕ). eqb n 0) e)
      by_test false t e = let below = at_most_7 (length mem) program s requests in absurd (omega (arith, below))

  -- the run's own state is the one that the shorter call gives
  abbrev shorter : MicroCalled → MicroCalled
  shorter called =
      record {
        answer =
            record {
              end = Ok tt;
              microcycles = called.answer.microcycles;
              steps = called.answer.steps;
              state = cond (eqb called.answer.microcycles.count 0) (micro_packed (micro_unpacked s)) called.answer.state;
            };
        memory = called.memory;
      }

  state_then : is_done whole.ran.end ≡ false → micro_packed whole.ran.state ≡ (shorter (answered s whole)).answer.state
  state_then d = rw d (by_count (eqb whole.ran.microcycles.count 0) refl)
    where
      by_count : (b : Bool) → eqb whole.ran.microcycles.count 0 ≡ b → micro_packed whole.ran.state ≡ cond b (micro_packed (micro_unpacked s)) (cond b s (micro_packed whole.ran.state))
      by_count true e = ap micro_packed (unmoved program requests mem (micro_unpacked s) 0 0 (eqb-true whole.ran.microcycles.count 0 e))
      by_count false e = refl

  pub cut_by_8 : (shown (run program mem s requests).answer.end).number ≡ 8
      → run program mem s (take (run program mem s requests).answer.microcycles.count requests) ≡ shorter (run program mem s requests)
  cut_by_8 e =
      let was = cut_short e in
      let k = whole.ran.microcycles.count in
      let front : Fine (length mem) program s (take k requests)
      = record { lent = was.0.lent; inside = was.0.inside; requests_good = none_in_front bad_request k requests was.0.requests_good } in
      subst (λ (called : MicroCalled). run program mem s (take called.answer.microcycles.count requests) ≡ shorter called) (sym (as_run program mem s requests was.0))
      (as_run program mem s (take k requests) front
      ∙ ap (answered s) (cut program requests mem (micro_unpacked s) 0 0 k was.1 (sym (zero-add k)))
      ∙ ap (λ (state : MicroState). record {
        answer = record { end = Ok tt; microcycles = whole.ran.microcycles; steps = whole.ran.steps; state = state };
        memory = whole.memory;
      }) (state_then was.1))
