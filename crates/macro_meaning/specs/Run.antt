-- A run: one step for each request byte, 1 for a request that is up and 0 for none (the scope, on words and sizes, and on numbers). It
-- counts steps alone: nothing of the micro level shows. Assumes nothing.
use Rattle.std.specs.Prelude.{ℕ, Bool, cond, List, [], ◌∷◌, eqb, ltb, length, Result, Ok, Err}
use Rattle.std.specs.Result.{result_and}
use Rattle.words.specs.Registers.{register}
use Rattle.answers.specs.declared.Steps.{Steps}
use Rattle.answers.specs.declared.Refusal.{Refusal}
use Rattle.answers.specs.declared.Refusal.TheVariants.{Request}
use Rattle.answers.specs.Ends.{End}
use Rattle.answers.specs.Places.{above, first_place}
use Rattle.answers.specs.Tests.{lent_test}
use Rattle.macro_meaning.specs.declared.Stepped.{Stepped}
use Rattle.macro_meaning.specs.Machine.{MacroState, MacroMachine, macro_unpacked, macro_packed}
use Rattle.macro_meaning.specs.Step.{Macro, step}

-- the largest request byte: there is no reset at this level
abbrev pub most_step_request : ℕ
most_step_request = 1

-- 1 and 3 of what is lent, then the first bad request
unfoldable pub macro_test : ℕ → MacroState → List ℕ → End
macro_test words s requests =
    let first_bad = first_place (above most_step_request) requests in
    result_and (lent_test words (register s.registers 0)) (cond (ltb first_bad (length requests)) (Err (Request first_bad)) (Ok tt))

-- the request line that a byte stands for
abbrev pub up : ℕ → Bool
up request = eqb request 1

-- one step for each byte
unfoldable pub steps : List ℕ → MacroMachine → List ℕ → Macro
steps mem m [] = record { machine = m; memory = mem }
steps mem m (request ∷ rest) = let next = step mem m (up request) in steps next.memory next.machine rest

-- what a call answers, and the state and memory after it
pub record MacroCalled : Type 0 where
  pub answer : Result Steps Refusal
  pub state : MacroState
  pub memory : List ℕ

-- .. as the function hands it back by value: after a refusal a caller has the state that it lent
abbrev pub macro_answer : MacroCalled → Result Stepped Refusal
macro_answer called = elim called.answer [ Ok steps ↦ Ok (record { steps = steps; state = called.state }) | Err refusal ↦ Err refusal ]

abbrev pub macro_refused : Refusal → MacroState → List ℕ → MacroCalled
macro_refused refusal s mem = record { answer = Err refusal; state = s; memory = mem }

-- as many steps as bytes
abbrev pub macro_done : ℕ → Macro → MacroCalled
macro_done count after = record { answer = Ok (record { count = count }); state = macro_packed after.machine; memory = after.memory }

-- the tests, with everything as lent where one fails; then the rest
abbrev pub macro_tested_first : End → MacroState → List ℕ → MacroCalled → MacroCalled
macro_tested_first test s mem rest = elim test [ Ok _ ↦ rest | Err refusal ↦ macro_refused refusal s mem ]

unfoldable pub run : List ℕ → MacroState → List ℕ → MacroCalled
run mem s requests =
    macro_tested_first (macro_test (length mem) s requests) s mem
    (macro_done (length requests) (steps mem (macro_unpacked s) requests))
