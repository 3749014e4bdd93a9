-- A display advances its board by microcycles, call by call. Where each call is done, the calls together are one run over all their request
-- bytes: the board, memory and both counts come out alike, and by its count that run is done. The PSW has six bits at the start, as every
-- done call leaves it: with no byte at all there is no call to drop its other bits, where a run drops them.
use Prim.Native.Nat.{ℕ, suc, ◌+◌, ◌<◌}
use native.Mathlib.Omega.{arith}
use mathlib.Core.Path.{◌≡◌, refl, sym, ap, ◌∙◌}
use mathlib.Core.Bool.{Bool, true, false, cond, false≢true}
use mathlib.Core.List.{List, [], ◌∷◌}
use lib.Dec.{eqb}
use lib.ListN.{length}
use Rattle.answers.specs.Ends.{is_done}
use Rattle.answers.specs.Places.{first_place}
use Rattle.answers.proofs.OneNumberAnEnd.{done_is_0}
use Rattle.micro_meaning.specs.declared.MicroState.{MicroState}
use Rattle.micro_meaning.specs.Machine.{micro_unpacked}
use Rattle.micro_meaning.specs.Run.{MicroCalled, bad_request, micro_test, run_on, answered, micro_refused, run}
use Rattle.micro_meaning.proofs.RunKeeps.{call_six_bits}
use Rattle.micro_meaning.proofs.RunTests.{fine}
use Rattle.micro_meaning.proofs.RunsInARow.{packed_again, in_a_row}
use Rattle.board_meaning.specs.Board.{BoardFound, board_microcycle}

-- what a display shows
pub record Shown : Type 0 where
  pub board : MicroState
  pub memory : List ℕ
  pub microcycles : ℕ
  pub steps : ℕ

-- a call, and then what the calls behind it show
abbrev on_top : BoardFound → Shown → Shown
on_top call rest =
    record {
      board = rest.board;
      memory = rest.memory;
      microcycles = call.answer.microcycles.count + rest.microcycles;
      steps = call.answer.steps.count + rest.steps;
    }

abbrev unmoved : MicroState → List ℕ → Shown
unmoved board mem = record { board = board; memory = mem; microcycles = 0; steps = 0 }

module _ (program : List ℕ) where
  -- a microcycle call for each byte
  pub one_by_one : MicroState → List ℕ → List ℕ → Shown
  one_by_one board mem [] = unmoved board mem
  one_by_one board mem (request ∷ rest) =
      let call = board_microcycle board program mem request in
      on_top call (one_by_one call.board call.memory rest)

  -- .. and each of them is done
  pub AllDone : MicroState → List ℕ → List ℕ → Type 0
  AllDone board mem [] = Unit {0}
  AllDone board mem (request ∷ rest) =
      let call = board_microcycle board program mem request in
      (eqb call.answer.number 0 ≡ true) × AllDone call.board call.memory rest

  abbrev shown_by : MicroCalled → Shown
  shown_by called =
      record {
        board = called.answer.state;
        memory = called.memory;
        microcycles = called.answer.microcycles.count;
        steps = called.answer.steps.count;
      }

  -- no byte, no change, whether the run is refused or done
  none : (board : MicroState) (mem : List ℕ) → board.psw < 64 → unmoved board mem ≡ shown_by (run program mem board [])
  unfolding run run_on
  none board mem six = by_test (is_done (micro_test (length mem) program board []))
    where
      by_test : (b : Bool)
          → unmoved board mem
          ≡ shown_by (cond b (answered board (run_on program mem (micro_unpacked board) 0 0 []))
          (micro_refused (micro_test (length mem) program board []) board mem))
      by_test true = ap (λ (s : MicroState). unmoved s mem) (sym (packed_again board six))
      by_test false = refl

  -- by its number a call's run is done
  done : (board : MicroState) (mem : List ℕ) (request : ℕ) → eqb (board_microcycle board program mem request).answer.number 0 ≡ true
      → is_done (run program mem board (request ∷ [])).answer.end ≡ true
  unfolding board_microcycle
  done board mem request d = done_is_0 (run program mem board (request ∷ [])).answer.end ∙ d

  -- a done call's byte is good
  good_byte : (board : MicroState) (mem : List ℕ) (request : ℕ) → is_done (run program mem board (request ∷ [])).answer.end ≡ true
      → first_place bad_request (request ∷ []) ≡ 1
  unfolding run
  good_byte board mem request d = by_test (is_done (micro_test (length mem) program board (request ∷ []))) refl d
    where
      by_test : (b : Bool) → is_done (micro_test (length mem) program board (request ∷ [])) ≡ b
          → is_done (cond b (answered board (run_on program mem (micro_unpacked board) 0 0 (request ∷ [])))
          (micro_refused (micro_test (length mem) program board (request ∷ [])) board mem)).answer.end ≡ true
          → first_place bad_request (request ∷ []) ≡ 1
      by_test true e d = (fine (length mem) program board (request ∷ []) e).requests_good
      by_test false e d = absurd (false≢true (sym e ∙ d))

  good_bytes : (requests : List ℕ) (board : MicroState) (mem : List ℕ) → AllDone board mem requests
      → first_place bad_request requests ≡ length requests
  unfolding AllDone first_place board_microcycle
  good_bytes [] board mem all = refl
  good_bytes (request ∷ rest) board mem all =
      let call = board_microcycle board program mem request in
      go (bad_request request) (good_byte board mem request (done board mem request all.0)) (good_bytes rest call.board call.memory all.1)
    where
      go : (b : Bool) → cond b 0 (suc 0) ≡ suc 0 → first_place bad_request rest ≡ length rest
          → cond b 0 (suc (first_place bad_request rest)) ≡ suc (length rest)
      go true one ih = absurd (omega arith)
      go false one ih = ap suc ih

  pub calls_are_a_run : (requests : List ℕ) (board : MicroState) (mem : List ℕ) → board.psw < 64 → AllDone board mem requests
      → one_by_one board mem requests ≡ shown_by (run program mem board requests)
  unfolding one_by_one AllDone board_microcycle
  calls_are_a_run [] board mem six all = none board mem six
  calls_are_a_run (request ∷ rest) board mem six all =
      let first = run program mem board (request ∷ []) in
      ap (on_top (board_microcycle board program mem request))
      (calls_are_a_run rest first.answer.state first.memory (call_six_bits program mem board (request ∷ []) six) all.1)
      ∙ sym (ap shown_by
      (in_a_row program mem board (request ∷ []) rest six (done board mem request all.0) (good_bytes rest first.answer.state first.memory all.1)))
