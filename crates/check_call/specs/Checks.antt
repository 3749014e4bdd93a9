-- avm_check: the checker's answer by the scope's number, with the word that goes with it and, where the microprogram is accepted, the
-- longest walk in microcycles. Assumes nothing.
use Rattle.std.specs.Prelude.{◌≡◌, List, ℕ, Ok, Err}
use Rattle.check_meaning.specs.Meaning.{Checked, Meant}
use Rattle.calls.specs.declared.Answer.{Answer}
use Rattle.calls.specs.Answers.{answered, refused}

-- the microcycles of a refusal are 0
abbrev pub shown_as : Checked → Answer
shown_as (Ok longest) = answered (Ok tt) longest (record { count = 0 })
shown_as (Err refusal) = refused refusal

-- an answer that the walks of the microprogram ask for, as the call shows it
pub record CheckAnswer (program : List ℕ) (r : Answer) : Type 0 where
  pub checked : Checked
  pub meant : Meant program checked
  pub shows : r ≡ shown_as checked
