-- Registers that a C call lends as a list. Only here can their number be wrong, so only these calls answer 2, between 1 and 3. Where it is
-- wrong zeros are copied in and nothing is copied out; a call that passed the tests copies all 32 both ways. Assumes nothing.
use Rattle.std.specs.Prelude.{ℕ, cond, List, eqb, length, replicate, Ok, Err}
use Rattle.words.specs.Lengths.{legal_length}
use Rattle.answers.specs.declared.Refusal.TheVariants.{MemoryLength, RegisterCount}
use Rattle.answers.specs.Ends.{End}
use Rattle.calls.specs.declared.Answer.{Answer}
use Rattle.calls.specs.Answers.{refused}

-- registers that a call is lent
abbrev pub register_count : ℕ
register_count = 32

-- 1, then 2
unfoldable pub first_test : ℕ → ℕ → End
first_test words count = cond (legal_length words) (cond (eqb count register_count) (Ok tt) (Err RegisterCount)) (Err MemoryLength)

-- lent registers as a value
unfoldable pub registers_in : List ℕ → List ℕ
registers_in lent = cond (eqb (length lent) register_count) lent (replicate register_count 0)

-- .. and back: what the lent place holds then
unfoldable pub registers_out : List ℕ → List ℕ → List ℕ
registers_out registers lent = cond (eqb (length lent) register_count) registers lent

-- what avm_run and avm_steps answer, and what is found in every lent place after them
pub record Found : Type 0 where
  pub answer : Answer
  pub memory : List ℕ
  pub registers : List ℕ
  pub state : List ℕ

-- what is found after the call, place by place
abbrev pub found : Answer → List ℕ → List ℕ → List ℕ → Found
found answer mem registers state = record { answer = answer; memory = mem; registers = registers; state = state }

-- 1 and 2, with everything as lent; then the rest
abbrev pub tested_first : List ℕ → List ℕ → List ℕ → Found → Found
tested_first mem registers state rest =
    elim (first_test (length mem) (length registers)) [
      | Ok _ ↦ rest
      | Err refusal ↦ found (refused refusal) mem registers state
    ]
