-- Two calls in a row, as calls: for a PSW of six bits, where the first is done and every byte of the second list is in range, the run over
-- both lists is the second run from where the first ended, counts added, 8 included. Six bits are needed where neither call does a
-- microcycle: the first then drops the PSW's other bits, and 8 would give them back.
use Prim.Native.Nat.{ℕ, ◌+◌, ◌<◌}
use native.Mathlib.Nat.{add-zero, mod-eq_of_lt}
use native.Mathlib.Omega.{arith}
use mathlib.Core.Path.{◌≡◌, refl, sym, ap, subst, ◌∙◌}
use mathlib.Core.Bool.{Bool, true, false, not, cond, ◌&&◌, false≢true}
use mathlib.Core.List.{List, ◌++◌}
use lib.Dec.{eqb}
use lib.ListN.{length}
use borrow.Author.Tests.{eqb-true, eqb-false}
use Rattle.words.specs.Registers.{register}
use Rattle.status.specs.declared.psw.Psw.{Psw}
use Rattle.status.proofs.PswNumbers.{dropped, restored}
use Rattle.answers.specs.Ends.{is_done}
use Rattle.answers.specs.Places.{first_place}
use Rattle.answers.proofs.FirstPlace.{none_in_join}
use Rattle.control_store.specs.ControlStore.{machine_test}
use Rattle.micro_meaning.specs.declared.MicroState.{MicroState}
use Rattle.micro_meaning.specs.declared.MicroMachine.{MicroMachine}
use Rattle.micro_meaning.specs.Machine.{micro_unpacked, micro_packed}
use Rattle.micro_meaning.specs.Run.{RanOn, MicroCalled, bad_request, micro_test, run_on, untouched, answered, micro_refused, run}
use Rattle.micro_meaning.proofs.RunKeeps.{memory_length, register_0, mpc_inside}
use Rattle.micro_meaning.proofs.RunJoins.{joined, counted, counts_added, unmoved}
use Rattle.micro_meaning.proofs.RunTests.{Fine, fine, fine_done}

-- six bits are given back as they were taken
pub packed_again : (s : MicroState) → s.psw < 64 → micro_packed (micro_unpacked s) ≡ s
packed_again s h = ap (λ (psw : ℕ). record { registers = s.registers; psw = psw; pc = s.pc; ir = s.ir; mar = s.mar; mbr = s.mbr; mpc = s.mpc; ivec = s.ivec }) (dropped s.psw ∙ mod-eq_of_lt h)

pub unpacked_again : (m : MicroMachine) → micro_unpacked (micro_packed m) ≡ m
unpacked_again m = ap (λ (psw : Psw). record { registers = m.registers; psw = psw; pc = m.pc; ir = m.ir; mar = m.mar; mbr = m.mbr; mpc = m.mpc; ivec = m.ivec }) (restored m.psw)

-- a call whose tests pass is its run
pub as_run : (program mem : List ℕ) (s : MicroState) (requests : List ℕ) → Fine (length mem) program s requests
    → run program mem s requests ≡ answered s (run_on program mem (micro_unpacked s) 0 0 requests)
unfolding run
as_run program mem s requests f = rw (fine_done (length mem) program s requests f)

-- what a done call was
record DoneCall (program mem : List ℕ) (s : MicroState) (requests : List ℕ) : Type 0 where
  tests : Fine (length mem) program s requests
  done : is_done (run_on program mem (micro_unpacked s) 0 0 requests).ran.end ≡ true

done_call : (program mem : List ℕ) (s : MicroState) (requests : List ℕ) → is_done (run program mem s requests).answer.end ≡ true → DoneCall program mem s requests
unfolding run
done_call program mem s requests d = by_test (is_done (micro_test (length mem) program s requests)) refl d
  where
    by_test : (b : Bool) → is_done (micro_test (length mem) program s requests) ≡ b
        → is_done (cond b (answered s (run_on program mem (micro_unpacked s) 0 0 requests)) (micro_refused (micro_test (length mem) program s requests) s mem)).answer.end ≡ true
        → DoneCall program mem s requests
    by_test true e d = record { tests = fine (length mem) program s requests e; done = d }
    by_test false e d = absurd (false≢true (sym e ∙ d))

-- a call's answer from a run that is done: the state is the machine's
abbrev done_answer : RanOn → MicroCalled
done_answer r =
    record {
      answer = record { end = r.ran.end; microcycles = r.ran.microcycles; steps = r.ran.steps; state = micro_packed r.ran.state };
      memory = r.memory;
    }

done_answered : (s : MicroState) (r : RanOn) → is_done r.ran.end ≡ true → answered s r ≡ done_answer r
done_answered s r d = rw d

-- the second call's answer, with the first's counts added
abbrev pub added : MicroCalled → MicroCalled → MicroCalled
added first second =
    record {
      answer =
          record {
            end = second.answer.end;
            microcycles = record { count = first.answer.microcycles.count + second.answer.microcycles.count };
            steps = record { count = first.answer.steps.count + second.answer.steps.count };
            state = second.answer.state;
          };
      memory = second.memory;
    }

-- the state after both: as lent only where neither did a microcycle, and then nothing moved
same_state : (s start last : MicroState) (before own : ℕ) (done : Bool) → (own ≡ 0 → last ≡ start) → (before ≡ 0 → start ≡ s)
    → cond (not done && eqb (before + own) 0) s last ≡ cond (not done && eqb own 0) start last
same_state s start last before own true still begun = refl
same_state s start last before own false still begun = by_own (eqb own 0) refl (eqb (before + own) 0) refl
  where
    by_own : (b : Bool) → eqb own 0 ≡ b → (a : Bool) → eqb (before + own) 0 ≡ a → cond a s last ≡ cond b start last
    by_own true e true f = let none = eqb-true (before + own) 0 f in sym (begun (omega (arith, none)))
    by_own true e false f = still (eqb-true own 0 e)
    by_own false e true f = let none = eqb-true (before + own) 0 f in absurd (eqb-false own 0 e (omega (arith, none)))
    by_own false e false f = refl

-- two runs in a row, from a first call that is done
module _ (program mem : List ℕ) (s : MicroState) (xs ys : List ℕ) (six : s.psw < 64) (good : first_place bad_request ys ≡ length ys)
    (d : DoneCall program mem s xs) where
  abbrev first_run : RanOn
  first_run = run_on program mem (micro_unpacked s) 0 0 xs

  abbrev second_run : RanOn
  second_run = run_on program first_run.memory first_run.ran.state 0 0 ys

  tests_of_both : Fine (length mem) program s (xs ++ ys)
  tests_of_both =
      record {
        lent = d.tests.lent;
        inside = d.tests.inside;
        requests_good = none_in_join bad_request xs ys d.tests.requests_good good;
      }

  tests_of_second : Fine (length first_run.memory) program (micro_packed first_run.ran.state) ys
  tests_of_second =
      record {
        lent =
            ap (λ (words : ℕ). is_done (machine_test words (register first_run.ran.state.registers 0) program)) (memory_length program xs mem (micro_unpacked s) 0 0)
            ∙ ap (λ (zero : ℕ). is_done (machine_test (length mem) zero program)) (register_0 program xs mem (micro_unpacked s) 0 0)
            ∙ d.tests.lent;
        inside = mpc_inside program xs mem (micro_unpacked s) 0 0 d.tests.inside;
        requests_good = good;
      }

  both : run program mem s (xs ++ ys) ≡ answered s (counted first_run.ran.microcycles.count first_run.ran.steps.count second_run)
  both =
      as_run program mem s (xs ++ ys) tests_of_both
      ∙ ap (answered s)
      (joined program xs ys mem (micro_unpacked s) 0 0 d.done
      ∙ sym (ap (λ (k : ℕ). run_on program first_run.memory first_run.ran.state k (first_run.ran.steps.count + 0) ys) (add-zero first_run.ran.microcycles.count)
      ∙ ap (λ (n : ℕ). run_on program first_run.memory first_run.ran.state first_run.ran.microcycles.count n ys) (add-zero first_run.ran.steps.count))
      ∙ counts_added program ys first_run.memory first_run.ran.state first_run.ran.microcycles.count first_run.ran.steps.count 0 0)

  second : run program first_run.memory (micro_packed first_run.ran.state) ys ≡ answered (micro_packed first_run.ran.state) second_run
  second =
      as_run program first_run.memory (micro_packed first_run.ran.state) ys tests_of_second
      ∙ ap (λ (m : MicroMachine). answered (micro_packed first_run.ran.state) (run_on program first_run.memory m 0 0 ys)) (unpacked_again first_run.ran.state)

  first : run program mem s xs ≡ done_answer first_run
  first = as_run program mem s xs d.tests ∙ done_answered s first_run d.done

  state_of_both : cond (untouched (counted first_run.ran.microcycles.count first_run.ran.steps.count second_run).ran) s (micro_packed second_run.ran.state)
      ≡ cond (untouched second_run.ran) (micro_packed first_run.ran.state) (micro_packed second_run.ran.state)
  state_of_both =
      same_state s (micro_packed first_run.ran.state) (micro_packed second_run.ran.state) first_run.ran.microcycles.count
      second_run.ran.microcycles.count (is_done second_run.ran.end)
      (λ none. ap micro_packed (unmoved program ys first_run.memory first_run.ran.state 0 0 none))
      (λ none. ap micro_packed (unmoved program xs mem (micro_unpacked s) 0 0 none) ∙ packed_again s six)

  together : run program mem s (xs ++ ys) ≡ added (done_answer first_run) (answered (micro_packed first_run.ran.state) second_run)
  together =
      both
      ∙ ap (λ (state : MicroState). record {
        answer =
            record {
              end = second_run.ran.end;
              microcycles = record { count = first_run.ran.microcycles.count + second_run.ran.microcycles.count };
              steps = record { count = first_run.ran.steps.count + second_run.ran.steps.count };
              state = state;
            };
        memory = second_run.memory;
      }) state_of_both

  after_done : run program mem s (xs ++ ys) ≡ added (run program mem s xs) (run program (run program mem s xs).memory (run program mem s xs).answer.state ys)
  after_done =
      subst (λ (one : MicroCalled). run program mem s (xs ++ ys) ≡ added one (run program one.memory one.answer.state ys)) (sym first)
      (subst (λ (two : MicroCalled). run program mem s (xs ++ ys) ≡ added (done_answer first_run) two) (sym second) together)

pub in_a_row : (program mem : List ℕ) (s : MicroState) (xs ys : List ℕ) → s.psw < 64 → is_done (run program mem s xs).answer.end ≡ true
    → first_place bad_request ys ≡ length ys
    → run program mem s (xs ++ ys) ≡ added (run program mem s xs) (run program (run program mem s xs).memory (run program mem s xs).answer.state ys)
in_a_row program mem s xs ys six d good = after_done program mem s xs ys six good (done_call program mem s xs d)
