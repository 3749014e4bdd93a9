-- REGISTER 0: no step changes it. That it reads as zero for ever is in Throughout.
use mathlib.Core.Path.{◌≡◌, ap, ◌∙◌}
use mathlib.Core.Bool.{Bool}
use Rattle.words.proofs.RegisterRule.{zero_kept}
use Rattle.macro_meaning.specs.Step.{Macro}
use Rattle.macro_meaning.specs.Programs.{next, holds}
use Rattle.macro_meaning.proofs.StepsTaken.{what_it_does, by_its_entry}

pub register_0_kept : (s : Macro) (request : Bool) → holds (next s request) 0 ≡ holds s 0
register_0_kept s request =
    let e = what_it_does s request in
    ap (λ (t : Macro). holds t 0) (by_its_entry s request) ∙ zero_kept e.sm e.register s.machine.registers e.value
