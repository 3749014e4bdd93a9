-- A run that is refused leaves state and memory as lent, the PSW's other bits too.
use Prim.Native.Nat.{ℕ}
use mathlib.Core.Path.{◌≡◌, refl}
use mathlib.Core.Bool.{false}
use mathlib.Core.List.{List}
use lib.ListN.{length}
use Rattle.std.specs.Prelude.{Ok, Err}
use Rattle.answers.specs.declared.Refusal.{Refusal}
use Rattle.answers.specs.Ends.{End, is_done}
use Rattle.macro_meaning.specs.Step.{Macro}
use Rattle.macro_meaning.specs.Machine.{MacroState}
use Rattle.macro_meaning.specs.Run.{MacroCalled, macro_test, macro_answer, macro_refused, macro_done, macro_tested_first, run}

pub refused_as_lent : (mem : List ℕ) (s : MacroState) (requests : List ℕ) → is_done (macro_test (length mem) s requests) ≡ false
    → ((run mem s requests).state ≡ s) × ((run mem s requests).memory ≡ mem)
unfolding run
refused_as_lent mem s requests = go (macro_test (length mem) s requests) _
  where
    go : (test : End) (rest : MacroCalled) → is_done test ≡ false
        → ((macro_tested_first test s mem rest).state ≡ s) × ((macro_tested_first test s mem rest).memory ≡ mem)
    go (Ok _) rest h = cc
    go (Err refusal) rest h = (refl, refl)

-- .. so one that hands back a refusal was refused, with that
pub handed_back_refused : (mem : List ℕ) (s : MacroState) (requests : List ℕ) {refusal : Refusal} → macro_answer (run mem s requests) ≡ Err refusal
    → run mem s requests ≡ macro_refused refusal s mem
unfolding run
handed_back_refused mem s requests {refusal} = go (macro_test (length mem) s requests) _ _
  where
    go : (test : End) (count : ℕ) (after : Macro) → macro_answer (macro_tested_first test s mem (macro_done count after)) ≡ Err refusal
        → macro_tested_first test s mem (macro_done count after) ≡ macro_refused refusal s mem
    go (Ok _) count after e = cc
    go (Err other) count after e = cc
