-- A turn does the next step, and at the end none is left.
use Rattle.std.proofs.Common.{sym, ap, ◌∙◌, arith, rules}
use Rattle.macro_meaning.specs.Step.{Macro}
use Rattle.macro_meaning.proofs.RunTurns.{more, over}
use Rattle.macro_level.proofs.run.stepped.Goals as goal

pub loop-request-preserved : goal.loop-request-preserved
loop-request-preserved c =
    let turn = c.loop-request in
    let done = c.step-machine.ensures in
    turn.invariant ∙ more turn.memory turn.machine c.args.requests.now turn.request-index (search rules) done.value done.memory_after

pub returns : goal.returns
returns c =
    let turn = c.loop-request in
    let ran = turn.invariant ∙ over turn.memory turn.machine c.args.requests.now turn.request-index (omega arith) in
    record { value = sym (ap (λ (r : Macro). r.machine) ran); memory_after = sym (ap (λ (r : Macro). r.memory) ran) }
