-- The machine reads the listing: the fields of each packed word are the listing's, no field runs over into the next. And each word is legal,
-- so that no call refuses the published microprogram with 4 or 5.
use Prim.Native.Nat.{ℕ, ◌%◌, ◌<◌}
use native.Mathlib.Nat.{mod-eq_of_lt}
use native.Mathlib.Omega.{arith}
use mathlib.Core.Path.{◌≡◌, refl, ap, ◌∙◌}
use mathlib.Core.List.{List, map}
use lib.ListN.{length, get_or}
use lib.Seq.{ext_get_or}
use Rattle.words.specs.Words.{field, bit}
use Rattle.std.specs.Prelude.{Ok}
use Rattle.answers.specs.Places.{first_place}
use Rattle.control_store.specs.Microword.{fields}
use Rattle.control_store.specs.Codes.{legal_microword}
use Rattle.control_store.specs.ControlStore.{word_at, legal_store_length, store_test}
use Rattle.published.specs.Assembler.{packed}
use Rattle.published.specs.Listing.{listing, published}

pub read_back : map fields published ≡ listing
unfolding field bit packed listing published
read_back = refl

pub passes : store_test published ≡ Ok tt
unfolding field bit packed listing published legal_microword legal_store_length store_test first_place
passes = refl

-- a control store that a caller fills word by word from the table is the published one
pub filled : (program : List ℕ) → length program ≡ 64 → ((k : ℕ) → k < 64 → get_or program k 0 ≡ word_at published (k % 64)) → program ≡ published
unfolding word_at published listing packed
filled program h word =
    ext_get_or 0 program published h
    (λ k below. let inside : k < 64 = omega (arith, h, below) in word k inside ∙ ap (λ (j : ℕ). word_at published j) (mod-eq_of_lt inside))
