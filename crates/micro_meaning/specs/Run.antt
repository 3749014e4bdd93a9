-- A run: one microcycle for each request byte (the scope, on steps the engine stands on, and on numbers). It counts microcycles on one
-- clock and returns to fetch on the other: a return is a microcycle after which MPC is the fetch address. Assumes nothing.
use Rattle.std.specs.Prelude.{ℕ, ◌+◌, Bool, cond, not, ◌&&◌, List, [], ◌∷◌, eqb, ltb, length, Ok, Err}
use Rattle.std.specs.Result.{result_and}
use mir.Val.{bool_byte as num}
use Rattle.words.specs.Registers.{register}
use Rattle.answers.specs.declared.Refusal.TheVariants.{Outside, Request, NextAddress}
use Rattle.answers.specs.Ends.{End, is_done}
use Rattle.answers.specs.Places.{above, first_place}
use Rattle.control_store.specs.Sequencer.{fetch_address}
use Rattle.blocks.specs.Memory.{applied}
use Rattle.control_store.specs.ControlStore.{machine_test}
use Rattle.phase_meaning.specs.Tests.{most_microcycle_request}
use Rattle.micro_meaning.specs.declared.MicroState.{MicroState}
use Rattle.micro_meaning.specs.declared.MicroMachine.{MicroMachine}
use Rattle.micro_meaning.specs.declared.Ran.{Ran}
use Rattle.micro_meaning.specs.Machine.{micro_unpacked, micro_packed}
use Rattle.micro_meaning.specs.Microcycle.{microcycle, micro_store, leaves}

-- the scope's 7
abbrev pub bad_request : ℕ → Bool
bad_request = above most_microcycle_request

-- 1, 3, 4, 5 of the machine, then MPC inside, then the first bad request
unfoldable pub micro_test : ℕ → List ℕ → MicroState → List ℕ → End
micro_test words program s requests =
    let first_bad = first_place bad_request requests in
    result_and (machine_test words (register s.registers 0) program)
    (cond (ltb s.mpc (length program))
    (cond (ltb first_bad (length requests)) (Err (Request first_bad)) (Ok tt))
    (Err Outside))

abbrev pub at_fetch : MicroMachine → Bool
at_fetch s = eqb s.mpc fetch_address

-- what a call answers
abbrev pub MicroAnswer : Type 0
MicroAnswer = Ran MicroState

-- how a run ended, and memory after it
pub record RanOn : Type 0 where
  pub ran : Ran MicroMachine
  pub memory : List ℕ

abbrev pub ended : End → List ℕ → MicroMachine → ℕ → ℕ → RanOn
ended end mem s done returns =
    record {
      ran = record { end = end; microcycles = record { count = done }; steps = record { count = returns }; state = s };
      memory = mem;
    }

-- the run from here over the requests that are left, with so many microcycles done and so many returns
unfoldable pub run_on : List ℕ → List ℕ → MicroMachine → ℕ → ℕ → List ℕ → RanOn
run_on program mem s done returns [] = ended (Ok tt) mem s done returns
run_on program mem s done returns (request ∷ rest) =
    let next = microcycle program mem s request in
    cond (leaves program s request) (ended (Err NextAddress) mem s done returns)
    (run_on program (applied (micro_store program s) mem) next (done + 1) (returns + num (at_fetch next)) rest)

-- what a call answers, and memory after it
pub record MicroCalled : Type 0 where
  pub answer : MicroAnswer
  pub memory : List ℕ

abbrev pub micro_refused : End → MicroState → List ℕ → MicroCalled
micro_refused end s mem =
    record {
      answer = record { end = end; microcycles = record { count = 0 }; steps = record { count = 0 }; state = s };
      memory = mem;
    }

-- refused before its first microcycle was done
abbrev pub untouched : Ran MicroMachine → Bool
untouched ran = not (is_done ran.end) && eqb ran.microcycles.count 0

-- the state after the last completed microcycle; with none completed, the state as lent
abbrev pub answer_of : MicroState → Ran MicroMachine → MicroAnswer
answer_of s ran =
    record {
      end = ran.end;
      microcycles = ran.microcycles;
      steps = ran.steps;
      state = cond (untouched ran) s (micro_packed ran.state);
    }

abbrev pub answered : MicroState → RanOn → MicroCalled
answered s r = record { answer = answer_of s r.ran; memory = r.memory }

unfoldable pub run : List ℕ → List ℕ → MicroState → List ℕ → MicroCalled
run program mem s requests =
    let test = micro_test (length mem) program s requests in
    cond (is_done test) (answered s (run_on program mem (micro_unpacked s) 0 0 requests)) (micro_refused test s mem)
