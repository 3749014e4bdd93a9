-- Where a record of data may stand, and which words it names (the scope, on images: word w is bytes 4w to 4w + 3). Addresses, counts and
-- ends are in bytes, m is the number of memory's words. Nothing here knows how a record is written. Assumes nothing.
use Rattle.std.specs.Prelude.{ℕ, ◌+◌, ◌*◌, ◌/◌, ◌%◌, ◌<◌, ◌≤◌, ◌≡◌, Bool, ◌&&◌, cond, List, eqb, leb, ltb, Result, Ok, Err}
use Rattle.std.proofs.lemmas.List.Edits.{sets}
use Rattle.image_placing.specs.declared.Misfit.{Misfit}
use Rattle.image_placing.specs.declared.Misfit.TheVariants.{Misplaced, Early}

-- whole words, and all of them in memory: a record that is not so is refused 13
abbrev pub well_placed : ℕ → ℕ → ℕ → Bool
well_placed m address count = (eqb (address % 4) 0 && eqb (count % 4) 0) && leb (address + count) (4 * m)

-- at or after the end of the record before: one that is not so is refused 15
abbrev pub in_order : ℕ → ℕ → Bool
in_order end address = leb end address

-- how a record stands: it fits, or why it doesn't
abbrev pub Placed : Type 0
Placed = Result Unit Misfit

-- 13 is tested before 15
unfoldable pub placing : ℕ → ℕ → ℕ → ℕ → Placed
placing m end address count =
    cond (well_placed m address count) (cond (in_order end address) (Ok tt) (Err Early)) (Err Misplaced)

-- the words that a record names
abbrev pub names : ℕ → ℕ → ℕ → Bool
names address count w = leb (address / 4) w && ltb w (address / 4 + count / 4)

-- memory with a record's words stored where it names them
abbrev pub stored : List ℕ → ℕ → List ℕ → List ℕ
stored memory address words = sets memory (address / 4) words

-- ---- the same without an order of tests; proofs/StandsExactly holds the two to each other

pub record WellPlaced (m address count : ℕ) : Type 0 where
  pub at_a_word : address % 4 ≡ 0
  pub of_words : count % 4 ≡ 0
  pub in_memory : address + count ≤ 4 * m

pub data Stands (m end address count : ℕ) : Placed → Type 0 where
  fits : WellPlaced m address count → end ≤ address → Stands m end address count (Ok tt)
  early : WellPlaced m address count → address < end → Stands m end address count (Err Early)
  misplaced : (WellPlaced m address count → ⊥) → Stands m end address count (Err Misplaced)
