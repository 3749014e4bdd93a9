-- A display advances its board by instructions, call by call. Where each call is done, the calls together are one run of the macro level
-- over all their request bytes: the board, memory and the count come out alike. The PSW has six bits at the start, as every done call leaves
-- it: with no byte at all there is no call to drop its other bits, where a run drops them.
use Prim.Native.Nat.{ℕ, suc, ◌+◌, ◌<◌}
use native.Mathlib.Nat.{mod-eq_of_lt, le_refl}
use native.Mathlib.Omega.{arith}
use mathlib.Core.Path.{◌≡◌, refl, sym, ap, subst, ◌∙◌}
use mathlib.Core.Bool.{Bool, true, false, cond, false≢true}
use mathlib.Core.List.{List, [], ◌∷◌}
use lib.Dec.{eqb, ltb}
use lib.ListN.{length}
use borrow.Author.Tests.{le-ltb}
use Rattle.words.specs.Registers.{register}
use Rattle.status.specs.declared.psw.Psw.{Psw}
use Rattle.status.proofs.PswNumbers.{dropped, restored, six_bits}
use Rattle.answers.specs.Ends.{End}
use Rattle.std.specs.Prelude.{Ok, Err}
use Rattle.std.specs.Result.{result_and}
use Rattle.answers.specs.declared.Refusal.TheVariants.{Request}
use Rattle.answers.specs.Ends.{is_done}
use Rattle.answers.proofs.OneNumberAnEnd.{only_done_is_done, done_is_0}
use Rattle.answers.specs.Places.{above, first_place}
use Rattle.answers.specs.Tests.{lent_test}
use Rattle.micro_meaning.specs.declared.MicroState.{MicroState}
use Rattle.macro_meaning.specs.Machine.{MacroMachine, macro_unpacked, macro_packed}
use Rattle.macro_meaning.specs.Step.{Macro, step}
use Rattle.macro_meaning.specs.Run.{most_step_request, macro_test, up, steps, macro_done, macro_tested_first, run}
use Rattle.board_meaning.specs.Board.{BoardFound, macro_seen, shown_on, instruction_found, board_instruction}

-- what a display shows
pub record Shown : Type 0 where
  pub board : MicroState
  pub memory : List ℕ
  pub steps : ℕ

-- an instruction call for each byte
unfoldable pub one_by_one : MicroState → List ℕ → List ℕ → Shown
one_by_one board mem [] = record { board = board; memory = mem; steps = 0 }
one_by_one board mem (request ∷ rest) =
    let call = board_instruction board mem request in
    let after = one_by_one call.board call.memory rest in
    record { board = after.board; memory = after.memory; steps = call.answer.steps.count + after.steps }

-- .. and each of them is done
unfoldable pub AllDone : MicroState → List ℕ → List ℕ → Type 0
AllDone board mem [] = Unit {0}
AllDone board mem (request ∷ rest) =
    let call = board_instruction board mem request in
    (eqb call.answer.number 0 ≡ true) × AllDone call.board call.memory rest

abbrev pub shown_by : BoardFound → Shown
shown_by call = record { board = call.board; memory = call.memory; steps = call.answer.steps.count }

module _ (board : MicroState) (mem : List ℕ) where
  -- a run by the outcome of its tests
  abbrev by_tests : End → List ℕ → BoardFound
  by_tests test requests =
      instruction_found board
      (macro_tested_first test (macro_seen board) mem (macro_done (length requests) (steps mem (macro_unpacked (macro_seen board)) requests)))

  abbrev tests : List ℕ → End
  tests requests = macro_test (length mem) (macro_seen board) requests

  tests_passed : (request : ℕ) → eqb (board_instruction board mem request).answer.number 0 ≡ true → tests (request ∷ []) ≡ Ok tt
  unfolding board_instruction run
  tests_passed request d = only_done_is_done (tests (request ∷ [])) (go (tests (request ∷ [])) d)
    where
      go : (test : End) → eqb (by_tests test (request ∷ [])).answer.number 0 ≡ true → is_done test ≡ true
      go (Ok _) d = refl
      go (Err refusal) d = done_is_0 (Err refusal) ∙ d

  -- so a done call is its step
  is_its_step : (request : ℕ) → eqb (board_instruction board mem request).answer.number 0 ≡ true
      → board_instruction board mem request ≡ by_tests (Ok tt) (request ∷ [])
  unfolding board_instruction run
  is_its_step request d = ap (λ (test : End). by_tests test (request ∷ [])) (tests_passed request d)

  abbrev lent : End
  lent = lent_test (length mem) (register board.registers 0)

  -- what its tests tell: what is lent is good, and so is the byte
  lent_good : (request : ℕ) → tests (request ∷ []) ≡ Ok tt → lent ≡ Ok tt
  unfolding macro_test
  lent_good request e = go lent _ e
    where
      go : (first second : End) → result_and first second ≡ Ok tt → first ≡ Ok tt
      go (Ok _) second e = refl
      go (Err refusal) second e = absurd cc

  byte_good : (request : ℕ) → tests (request ∷ []) ≡ Ok tt → above most_step_request request ≡ false
  unfolding macro_test first_place
  byte_good request e = go lent (above most_step_request request) e
    where
      bytes : Bool → End
      bytes bad = let place = cond bad 0 (suc 0) in cond (ltb place 1) (Err (Request place)) (Ok tt)

      go : (first : End) (bad : Bool) → result_and first (bytes bad) ≡ Ok tt → bad ≡ false
      go (Ok _) true e = absurd cc
      go (Ok _) false e = refl
      go (Err refusal) bad e = absurd cc

all_good : (requests : List ℕ) (board : MicroState) (mem : List ℕ) → AllDone board mem requests
    → first_place (above most_step_request) requests ≡ length requests
unfolding AllDone first_place
all_good [] board mem all = refl
all_good (request ∷ rest) board mem all =
    let call = board_instruction board mem request in
    go (above most_step_request request) (byte_good board mem request (tests_passed board mem request all.0))
    (all_good rest call.board call.memory all.1)
  where
    go : (b : Bool) → b ≡ false → first_place (above most_step_request) rest ≡ length rest
        → cond b 0 (suc (first_place (above most_step_request) rest)) ≡ suc (length rest)
    go true e ih = absurd (false≢true (sym e))
    go false e ih = ap suc ih

-- a board's PSW of six bits is given back as it was taken
packed_again : (board : MicroState) → board.psw < 64 → shown_on board (macro_packed (macro_unpacked (macro_seen board))) ≡ board
packed_again board six =
    ap (λ (psw : ℕ). record {
      registers = board.registers;
      psw = psw;
      pc = board.pc;
      ir = board.ir;
      mar = board.mar;
      mbr = board.mbr;
      mpc = board.mpc;
      ivec = board.ivec;
    }) (dropped board.psw ∙ mod-eq_of_lt six)

unpacked_again : (m : MacroMachine) → macro_unpacked (macro_packed m) ≡ m
unpacked_again m = ap (λ (psw : Psw). record { registers = m.registers; psw = psw; pc = m.pc; ivec = m.ivec }) (restored m.psw)

-- a step on a board, and what the calls behind it show
abbrev stepped : MicroState → List ℕ → ℕ → Macro
stepped board mem request = step mem (macro_unpacked (macro_seen board)) (up request)

abbrev after : MicroState → MacroMachine → List ℕ → List ℕ → Shown
after board m mem requests =
    let done = steps mem m requests in
    record { board = shown_on board (macro_packed done.machine); memory = done.memory; steps = length requests }

one_and : (n : ℕ) → 1 + n ≡ suc n
one_and n = omega arith

-- the calls are the steps, one behind the other
are_steps : (requests : List ℕ) (board : MicroState) (mem : List ℕ) → board.psw < 64 → AllDone board mem requests
    → one_by_one board mem requests ≡ after board (macro_unpacked (macro_seen board)) mem requests
unfolding one_by_one AllDone steps
are_steps [] board mem six all = ap (λ (b : MicroState). record { board = b; memory = mem; steps = 0 }) (sym (packed_again board six))
are_steps (request ∷ rest) board mem six all =
    subst (λ (call : BoardFound). AllDone call.board call.memory rest
    → record {
      board = (one_by_one call.board call.memory rest).board;
      memory = (one_by_one call.board call.memory rest).memory;
      steps = call.answer.steps.count + (one_by_one call.board call.memory rest).steps;
    } ≡ after board (macro_unpacked (macro_seen board)) mem (request ∷ rest))
    (sym (is_its_step board mem request all.0))
    (λ all'. from_there (are_steps rest moved then (six_bits (stepped board mem request).machine.psw) all'))
    all.1
  where
    moved : MicroState
    moved = shown_on board (macro_packed (stepped board mem request).machine)

    then : List ℕ
    then = (stepped board mem request).memory

    from_there : one_by_one moved then rest ≡ after moved (macro_unpacked (macro_seen moved)) then rest
        → record {
          board = (one_by_one moved then rest).board;
          memory = (one_by_one moved then rest).memory;
          steps = 1 + (one_by_one moved then rest).steps;
        } ≡ after board (macro_unpacked (macro_seen board)) mem (request ∷ rest)
    from_there ih =
        ap (λ (s : Shown). record { board = s.board; memory = s.memory; steps = 1 + s.steps })
        (ih ∙ ap (λ (m : MacroMachine). after moved m then rest) (unpacked_again (stepped board mem request).machine))
        ∙ ap (λ (count : ℕ). record {
          board = shown_on board (macro_packed (steps mem (macro_unpacked (macro_seen board)) (request ∷ rest)).machine);
          memory = (steps mem (macro_unpacked (macro_seen board)) (request ∷ rest)).memory;
          steps = count;
        }) (one_and (length rest))

-- tests that each call passes alone pass together
together : (board : MicroState) (mem requests : List ℕ) → lent board mem ≡ Ok tt
    → first_place (above most_step_request) requests ≡ length requests → tests board mem requests ≡ Ok tt
unfolding macro_test
together board mem requests l good = rw (l, good, le-ltb (length requests) (length requests) (le_refl (length requests)))

-- .. so the calls are one run. No byte, no change, whether the run is refused or done.
pub calls_are_a_run : (requests : List ℕ) (board : MicroState) (mem : List ℕ) → board.psw < 64 → AllDone board mem requests
    → one_by_one board mem requests ≡ shown_by (instruction_found board (run mem (macro_seen board) requests))
unfolding run AllDone steps
calls_are_a_run [] board mem six all = are_steps [] board mem six all ∙ by_test (tests board mem [])
  where
    by_test : (test : End) → after board (macro_unpacked (macro_seen board)) mem [] ≡ shown_by (by_tests board mem test [])
    by_test (Ok _) = refl
    by_test (Err refusal) = ap (λ (b : MicroState). record { board = b; memory = mem; steps = 0 }) (packed_again board six)
calls_are_a_run (request ∷ rest) board mem six all =
    are_steps (request ∷ rest) board mem six all
    ∙ ap (λ (test : End). shown_by (by_tests board mem test (request ∷ rest)))
    (sym (together board mem (request ∷ rest) (lent_good board mem request (tests_passed board mem request all.0))
    (all_good (request ∷ rest) board mem all)))
