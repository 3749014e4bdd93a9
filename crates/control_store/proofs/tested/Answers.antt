-- The tests are the definition's, in its order.
use mathlib.Core.Bool.{not}
use mathlib.Core.Path.{sym, ap, ◌∙◌}
use Rattle.answers.proofs.FirstPlace.{found, not_found}
use Rattle.control_store.specs.ControlStore.{legal_store_length, illegal, store_test}
use Rattle.control_store.proofs.StoreTest.{bad_length}
use Rattle.control_store.proofs.tested.Goals as goal

pub returns-then-not-fits : goal.returns-then-not-fits
unfolding legal_store_length
returns-then-not-fits c = sym (bad_length c.args.program.now (ap not c.if-not-fits.true))

pub returns-in-Some : goal.returns-in-Some
unfolding store_test legal_store_length
returns-in-Some c =
    let there = found illegal c.args.program.now (sym c.lowest_illegal.ensures ∙ c.in-Some.is) in
    rw (c.if-not-fits.false, there.1, there.0)

pub returns-in-None : goal.returns-in-None
unfolding store_test legal_store_length
returns-in-None c = rw (c.if-not-fits.false, not_found illegal c.args.program.now (sym c.lowest_illegal.ensures ∙ c.in-None.is))
