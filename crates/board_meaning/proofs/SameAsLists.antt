-- A board's calls are the calls that are lent registers and state words as lists, with one request byte: the same answer, and the same in
-- every place. So what is proved of those holds of a board.
use Prim.Native.Nat.{ℕ}
use mathlib.Core.Path.{◌≡◌, refl, sym, ap, ◌∙◌}
use mathlib.Core.Bool.{Bool, true, false, cond}
use mathlib.Core.List.{List, [], ◌∷◌}
use lib.ListN.{length}
use Rattle.words.specs.Lengths.{legal_length}
use Rattle.std.specs.Prelude.{Ok, Err}
use Rattle.answers.specs.declared.Refusal.TheVariants.{MemoryLength}
use Rattle.answers.specs.Ends.{End}
use Rattle.answers.specs.Tests.{lent_test}
use Rattle.control_store.specs.ControlStore.{machine_test}
use Rattle.calls.specs.Answers.{refused}
use Rattle.calls.specs.Lending as lists
use Rattle.micro_meaning.specs.declared.MicroState.{MicroState}
use Rattle.micro_meaning.specs.Run as micro
use Rattle.micro_call.specs.Runs.{state_words, avm_run}
use Rattle.macro_meaning.specs.Run as macro
use Rattle.macro_call.specs.Steps.{avm_steps}
use Rattle.board_meaning.specs.Board.{BoardFound, board_microcycle, board_instruction}

-- a board's places as lists
abbrev as_lists : BoardFound → lists.Found
as_lists call = lists.found call.answer call.memory call.board.registers (state_words call.board)

module _ (board : MicroState) (mem : List ℕ) (request : ℕ) (all : length board.registers ≡ lists.register_count) where
  -- a call on lists by the outcome of its own tests
  abbrev tested_by : lists.Found → End → lists.Found
  tested_by rest test =
      elim test [ Ok _ ↦ rest | Err refusal ↦ lists.found (refused refusal) mem board.registers (state_words board) ]

  -- of these 1 is left, which the level tests first: a board has all its registers
  first_is : lists.first_test (length mem) (length board.registers) ≡ cond (legal_length (length mem)) (Ok tt) (Err MemoryLength)
  unfolding lists.first_test
  first_is = rw all

  abbrev Refused : lists.Found → Type 0
  Refused rest = legal_length (length mem) ≡ false → rest ≡ tested_by rest (Err MemoryLength)

  behind_the_tests : (rest : lists.Found) → Refused rest → rest ≡ lists.tested_first mem board.registers (state_words board) rest
  behind_the_tests rest alike = go (legal_length (length mem)) alike ∙ sym (ap (tested_by rest) first_is)
    where
      go : (legal : Bool) → (legal ≡ false → rest ≡ tested_by rest (Err MemoryLength)) → rest ≡ tested_by rest (cond legal (Ok tt) (Err MemoryLength))
      go true alike = refl
      go false alike = alike refl

  pub same_as_avm_run : (program : List ℕ)
      → as_lists (board_microcycle board program mem request) ≡ avm_run program mem board.registers (state_words board) (request ∷ [])
  unfolding board_microcycle avm_run micro.run micro.micro_test machine_test lent_test
  same_as_avm_run program = behind_the_tests (as_lists (board_microcycle board program mem request)) alike
    where
      alike : Refused (as_lists (board_microcycle board program mem request))
      alike e = rw e

  pub same_as_avm_steps : as_lists (board_instruction board mem request) ≡ avm_steps mem board.registers (state_words board) (request ∷ [])
  unfolding board_instruction avm_steps macro.run macro.macro_test lent_test
  same_as_avm_steps = behind_the_tests (as_lists (board_instruction board mem request)) alike
    where
      alike : Refused (as_lists (board_instruction board mem request))
      alike e = rw (e, macro.macro_tested_first)
