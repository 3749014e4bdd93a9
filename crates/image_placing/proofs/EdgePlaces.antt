-- Places at the edges of a memory of 16 words, computed.
use mathlib.Core.Path.{◌≡◌, refl}
use mathlib.Core.List.{[], ◌∷◌}
use Rattle.std.specs.Prelude.{Ok, Err}
use Rattle.image_placing.specs.declared.Misfit.TheVariants.{Misplaced, Early}
use Rattle.image_placing.specs.Placing.{placing}

-- the last word; no data at the very end; a word behind it; the address, the count not of whole words; before the end of the last;
-- outside and before the end of the last, which is misplaced
pub edges_hold :
    placing 16 0 60 4 ∷ placing 16 64 64 0 ∷ placing 16 0 64 4 ∷ placing 16 0 2 4 ∷ placing 16 0 0 2 ∷ placing 16 8 4 4 ∷ placing 16 64 60 8 ∷ []
    ≡ Ok tt ∷ Ok tt ∷ Err Misplaced ∷ Err Misplaced ∷ Err Misplaced ∷ Err Early ∷ Err Misplaced ∷ []
unfolding placing
edges_hold = refl
