-- No second answer of avm_check fits a microprogram.
use Prim.Native.Nat.{ℕ}
use mathlib.Core.Path.{◌≡◌, sym, ap, ◌∙◌}
use mathlib.Core.List.{List}
use Rattle.check_meaning.proofs.OneAnswerFits.{one_answer_fits}
use Rattle.calls.specs.declared.Answer.{Answer}
use Rattle.check_call.specs.Checks.{shown_as, CheckAnswer}

pub one_check_fits : (program : List ℕ) {r s : Answer} → CheckAnswer program r → CheckAnswer program s → r ≡ s
one_check_fits program a b = a.shows ∙ ap shown_as (one_answer_fits program a.meant b.meant) ∙ sym b.shows
