-- THE PUBLISHED MICROPROGRAM IS ACCEPTED WITH 7, and no other answer fits it: the checker's own verdict, computed once over the packed
-- listing. That the table has the same words is the contract of `published::word`.
use mathlib.Core.Path.{◌≡◌, refl, subst}
use Rattle.words.specs.Words.{field, bit}
use Rattle.answers.specs.Places.{first_place}
use Rattle.control_store.specs.Codes.{legal_microword}
use Rattle.control_store.specs.ControlStore.{legal_store_length, store_test}
use Rattle.control_store.specs.Sequencer.{add_bt6, mpc_unit}
use Rattle.published.specs.Assembler.{packed}
use Rattle.published.specs.Listing.{listing, published}
use Rattle.check_meaning.specs.Meaning.{Checked, acceptance, Meant}
use Rattle.check_meaning.specs.Survey.{alone, union, without_fetch, next_set, spread, advance, survey, passes, lowest_leaving, judged, verdict}
use Rattle.check_meaning.proofs.OneAnswerFits.{one_answer_fits}
use Rattle.check_meaning.proofs.Verdicts.{verdict_meant}

computed : verdict published ≡ acceptance 7
unfolding verdict store_test legal_store_length first_place legal_microword published listing packed field bit mpc_unit add_bt6 alone union without_fetch next_set spread advance survey passes lowest_leaving judged
computed = refl

pub published_accepted : Meant published (acceptance 7)
published_accepted = subst (Meant published) computed (verdict_meant published)

pub answered_7 : {r : Checked} → Meant published r → r ≡ acceptance 7
answered_7 meant = one_answer_fits published meant published_accepted
