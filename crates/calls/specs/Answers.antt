-- What a C call answers: the scope's number and what goes with it, and the two clocks' counts. A field that a call does not name is 0.
-- Assumes nothing.
use Rattle.std.specs.Prelude.{Err}
use Rattle.answers.specs.declared.Refusal.{Refusal}
use Rattle.answers.specs.declared.Microcycles.{Microcycles}
use Rattle.answers.specs.declared.Steps.{Steps}
use Rattle.answers.specs.Ends.{End, shown}
use Rattle.calls.specs.declared.Answer.{Answer}

abbrev pub answered : End → Microcycles → Steps → Answer
answered end microcycles steps = record { number = (shown end).number; at = (shown end).at; microcycles = microcycles; steps = steps }

-- a refusal, before anything was done
abbrev pub refused : Refusal → Answer
refused refusal = answered (Err refusal) (record { count = 0 }) (record { count = 0 })
