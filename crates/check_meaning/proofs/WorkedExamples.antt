-- The scope's run examples of the checker, computed. A word's other fields are 0, and it is legal so; `step` is the word 0.
use Prim.Native.Nat.{ℕ, ◌+◌, ◌*◌, ◌^◌}
use mathlib.Core.Path.{◌≡◌, refl}
use mathlib.Core.List.{List, [], ◌∷◌, map}
use lib.Count.{count_trailing_zeros}
use lib.ListN.{replicate}
use Rattle.words.specs.Words.{field, bit}
use Rattle.answers.specs.declared.Refusal.TheVariants.{ProgramLength, Microword, WalkLeaves, WalkNotBack}
use Rattle.answers.specs.Places.{first_place}
use Rattle.control_store.specs.Codes.{jmp, legal_microword}
use Rattle.control_store.specs.ControlStore.{legal_store_length, store_test}
use Rattle.control_store.specs.Sequencer.{add_bt6, mpc_unit}
use Rattle.check_meaning.specs.Meaning.{Checked, refusal, acceptance}
use Rattle.check_meaning.specs.Survey.{alone, union, without_fetch, next_set, spread, advance, survey, passes, lowest_leaving, judged, verdict}

abbrev jump_to : ℕ → ℕ
jump_to a = jmp * 2 ^ 6 + a

abbrev programs : List (List ℕ)
programs =
    (jump_to 0 ∷ [])
    ∷ (jump_to 1 ∷ jump_to 1 ∷ [])
    ∷ (jump_to 1 ∷ jump_to 2 ∷ jump_to 1 ∷ [])
    ∷ replicate 64 0
    ∷ []
    ∷ replicate 65 0
    ∷ (2 ^ 40 ∷ [])
    ∷ (0 ∷ 2 ^ 63 ∷ [])
    ∷ (jump_to 1 ∷ [])
    ∷ []

-- a fetch word that leads only to itself; circles without fetch; a single walk of 64; no word, and 65; bit 40, and bit 63; a way out
abbrev answers : List Checked
answers =
    acceptance 1
    ∷ refusal (WalkNotBack 1)
    ∷ refusal (WalkNotBack 2)
    ∷ acceptance 64
    ∷ refusal ProgramLength
    ∷ refusal ProgramLength
    ∷ refusal (Microword 0)
    ∷ refusal (Microword 1)
    ∷ refusal (WalkLeaves 0)
    ∷ []

pub examples_hold : map verdict programs ≡ answers
unfolding verdict store_test legal_store_length first_place legal_microword field bit mpc_unit add_bt6 alone union without_fetch next_set spread advance survey passes lowest_leaving judged count_trailing_zeros
examples_hold = refl
