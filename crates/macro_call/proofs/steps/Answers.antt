-- What the level refuses is as lent.
use Rattle.std.proofs.Common.{◌≡◌, ◌∙◌, ℕ, List, sym, ap, length, rules}
use Rattle.macro_meaning.specs.Machine.{MacroState}
use Rattle.macro_meaning.specs.Run.{MacroCalled, macro_answer, run}
use Rattle.macro_meaning.proofs.RefusedRuns.{handed_back_refused}
use Rattle.calls.proofs.Fitting.{registers_in_whole}
use Rattle.macro_call.specs.Steps.{macro_state}
use Rattle.macro_call.proofs.StepsCases.{run_refused}
use Rattle.macro_call.proofs.steps.Goals as goal

pub returns-in-Err-run : goal.returns-in-Err-run
returns-in-Err-run c =
    let args = c.args in
    let mem = args.memory.now in
    let requests = args.requests.now in
    let passed = sym c.test.ensures ∙ c.in_default.is in
    let seven : length args.state.now ≡ 7 = search rules in
    let lent = c.macro_state-lent.ensures ∙ ap (λ (file : List ℕ). macro_state file args.state.now) (c.registers_in.ensures ∙ registers_in_whole (length mem) args.registers.now passed) in
    let refused = sym c.run.ensures.value ∙ c.in-Err-run.is in
    let kept = c.run.ensures.memory_after ∙ ap (λ (called : MacroCalled). called.memory) (handed_back_refused mem c.macro_state-lent.result requests refused) in
    let again = sym (ap (λ (s : MacroState). macro_answer (run mem s requests)) lent) ∙ refused in
    rw (c.from-in-Err-run.ensures, kept) (sym (run_refused mem args.registers.now args.state.now requests passed seven again))
