-- The survey's definitions where a loop stands: one turn more, and the end.
use Prim.Native.Nat.{ℕ, zero, suc, ◌+◌, ◌-◌, ◌^◌, ◌<◌, ◌≤◌, min}
use native.Mathlib.Numerals.{add-one}
use native.Mathlib.Omega.{arith}
use mathlib.Core.Path.{◌≡◌, refl, sym}
use mathlib.Core.Bool.{true, false}
use mathlib.Core.List.{List, [], ◌∷◌}
use lib.ListN.{length, get_or, take, drop}
use lib.Seq.{drop-cons}
use lib.Pow.{pow_mono}
use mathlib.Core.Logic.{⊎_elim}
use Rattle.std.proofs.lemmas.Bool.{cases_lt}
use Rattle.std.proofs.lemmas.List.{take_all}
use Rattle.check_meaning.specs.declared.AddressSet.{AddressSet}
use Rattle.check_meaning.specs.declared.Survey.{Survey}
use Rattle.check_meaning.specs.Meaning.{microcycles}
use Rattle.check_meaning.proofs.Sets.{none_beyond}
use Rattle.check_meaning.specs.Survey.{nowhere, is_empty, joined, spread, advance, survey, rounds}

-- ---- the next addresses of a set
pub spread_on : (program : List ℕ) (standing found : AddressSet) (at : ℕ) → at < length program
    → spread at (drop at program) standing found ≡ spread (at + 1) (drop (at + 1) program) standing (joined found standing at (get_or program at 0))
unfolding spread
spread_on program standing found at h = rw (drop-cons program at 0 h, add-one at) refl

none_more : (standing found : AddressSet) (at : ℕ) (words : List ℕ) → standing.bits < 2 ^ at → spread at words standing found ≡ found
unfolding spread
none_more standing found at [] h = refl
none_more standing found at (word ∷ words) h =
    let more : 2 ^ at ≤ 2 ^ suc at = pow_mono (omega arith) in
    rw (none_beyond standing at h) (none_more standing found (suc at) words (omega (arith, h, more)))

up_to : (standing found : AddressSet) (end at count : ℕ) (words : List ℕ) → standing.bits < 2 ^ end → end ≡ at + count
    → spread at (take count words) standing found ≡ spread at words standing found
unfolding spread
up_to standing found end at zero words h e =
    let here : end ≡ at = omega (arith, e) in sym (none_more standing found at words (rw here at h))
up_to standing found end at (suc count) [] h e = refl
up_to standing found end at (suc count) (word ∷ words) h e =
    up_to standing (joined found standing at word) end (suc at) count words h (omega (arith, e))

-- the words below the end of a set are all that count
pub spread_within : (program : List ℕ) (standing : AddressSet) (end : ℕ) → standing.bits < 2 ^ end
    → spread 0 (take (min (length program) end) program) standing nowhere ≡ spread 0 program standing nowhere
spread_within program standing end h = ⊎_elim shorter longer (cases_lt end (length program))
  where
    shorter : end < length program → spread 0 (take (min (length program) end) program) standing nowhere ≡ spread 0 program standing nowhere
    shorter l = let least : min (length program) end ≡ end = omega arith in rw least (up_to standing nowhere end 0 end program h (omega arith))

    longer : length program ≤ end → spread 0 (take (min (length program) end) program) standing nowhere ≡ spread 0 program standing nowhere
    longer l = let least : min (length program) end ≡ length program = omega arith in rw (least, take_all (length program) program (omega arith)) refl

-- ---- all walks, microcycle by microcycle: what is left where the next is the microcycle `count`
unfoldable pub from_microcycle : List ℕ → Survey → ℕ → Survey
from_microcycle program s count = survey program (rounds + 1 - count) (count - 1) s

module _ (program : List ℕ) (s : Survey) where
  pub from_first : from_microcycle program s 1 ≡ survey program rounds 0 s
  unfolding from_microcycle
  from_first = refl

  pub walks_on : (count : ℕ) → 1 ≤ count → count ≤ rounds → is_empty s.standing ≡ false
      → from_microcycle program s count ≡ from_microcycle program (advance program (microcycles count) s) (count + 1)
  unfolding from_microcycle survey
  walks_on count l h e =
      let left : rounds + 1 - count ≡ suc (rounds + 1 - (count + 1)) = omega arith in
      let this : count - 1 + 1 ≡ count = omega arith in
      let next : count + 1 - 1 ≡ count = omega arith in
      rw (left, next) (rw (e, this) refl)

  none_left : (left done : ℕ) → is_empty s.standing ≡ true → survey program left done s ≡ s
  unfolding survey
  none_left zero done h = refl
  none_left (suc left) done h = rw h refl

  pub none_under_way : (count : ℕ) → is_empty s.standing ≡ true → from_microcycle program s count ≡ s
  unfolding from_microcycle
  none_under_way count h = none_left (rounds + 1 - count) (count - 1) h

  pub all_done : (count : ℕ) → rounds < count → from_microcycle program s count ≡ s
  unfolding from_microcycle survey
  all_done count l = let none : rounds + 1 - count ≡ 0 = omega arith in rw none refl
