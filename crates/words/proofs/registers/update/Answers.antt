-- The tests are the definition's, in its order; a number past the file names no register, and storing there changes nothing.
use borrow.Author.Rules.{rules}
use native.Mathlib.Omega.{arith}
use mathlib.Core.Path.{◌≡◌, sym, ◌∙◌}
use lib.ListN.{length}
use lib.Seq.{set_out}
use Rattle.words.proofs.RegisterRule.{zero_register, guarded, stored}
use Rattle.words.proofs.registers.update.Goals as goal

pub returns-then-n-eq0 : goal.returns-then-n-eq0
returns-then-n-eq0 c =
    let args = c.args in
    sym (zero_register args.sm args.n args.registers args.value c.if-n-eq0.true)

pub returns-then-supervisor-sm : goal.returns-then-supervisor-sm
returns-then-supervisor-sm c =
    let args = c.args in
    sym (guarded args.sm args.n args.registers args.value c.if-n-eq0.false (rw c.is_supervisor-supervisor.ensures at c.if-supervisor-sm.true))

pub returns-then-n-ge32 : goal.returns-then-n-ge32
returns-then-n-ge32 c =
    let args = c.args in
    let long : length args.registers ≡ 32 = search rules in
    sym
    (stored args.sm args.n args.registers args.value c.if-n-eq0.false (rw c.is_supervisor-supervisor.ensures at c.if-supervisor-sm.false)
    ∙ set_out args.registers args.n args.value (omega arith))

pub returns : goal.returns
returns c =
    let args = c.args in
    sym (stored args.sm args.n args.registers args.value c.if-n-eq0.false (rw c.is_supervisor-supervisor.ensures at c.if-supervisor-sm.false))
