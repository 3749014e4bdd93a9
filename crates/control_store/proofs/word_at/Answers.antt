-- Past the control store there is no word, and the definition gives 0.
use borrow.Author.Rules.{rules}
use mathlib.Core.Path.{sym}
use lib.ListN.{get_or-eq_default}
use Rattle.control_store.specs.ControlStore.{word_at}
use Rattle.control_store.proofs.word_at.Goals as goal

pub returns-then-at-program : goal.returns-then-at-program
unfolding word_at
returns-then-at-program c = search rules

pub returns-else-at-program : goal.returns-else-at-program
unfolding word_at
returns-else-at-program c = let args = c.args in sym (get_or-eq_default args.program.now 0 c.if-at-program.false)
