-- A record's store leaves every word that it does not name.
use Prim.Native.Nat.{ℕ, suc, ◌+◌, ◌/◌, ◌<◌, ◌≤◌}
use native.Mathlib.Omega.{arith}
use mathlib.Core.Path.{◌≡◌, refl, sym, ◌∙◌}
use mathlib.Core.Bool.{false, false≢true}
use mathlib.Core.List.{List, [], ◌∷◌}
use mathlib.Core.Logic.{◌⊎◌, inl, inr}
use lib.ListN.{length, get_or, set}
use lib.Seq.{sets, get_or-set_other}
use borrow.Author.Tests.{lt-ltb, le-leb}
use Rattle.words.proofs.Cases.{lt_or_le}
use Rattle.image_placing.specs.Placing.{names, stored}

-- a word before the stores, or after them
below : (ws l : List ℕ) (at w : ℕ) → w < at → get_or (sets l at ws) w 0 ≡ get_or l w 0
below [] l at w h = refl
below (x ∷ ws) l at w h = below ws (set l at x) (suc at) w (omega arith) ∙ get_or-set_other l at w x 0 (λ e. omega arith)

above : (ws l : List ℕ) (at w : ℕ) → at + length ws ≤ w → get_or (sets l at ws) w 0 ≡ get_or l w 0
above [] l at w h = refl
above (x ∷ ws) l at w h = above ws (set l at x) (suc at) w (omega arith) ∙ get_or-set_other l at w x 0 (λ e. omega arith)

pub not_named_kept : (memory words : List ℕ) (address count w : ℕ) → length words ≡ count / 4 → names address count w ≡ false →
    get_or (stored memory address words) w 0 ≡ get_or memory w 0
not_named_kept memory words address count w n e = by_place (lt_or_le w (address / 4)) (lt_or_le w (address / 4 + count / 4))
  where
    by_place : (w < address / 4) ⊎ (address / 4 ≤ w) → (w < address / 4 + count / 4) ⊎ (address / 4 + count / 4 ≤ w) →
        get_or (stored memory address words) w 0 ≡ get_or memory w 0
    by_place (inl before) t = below words memory (address / 4) w before
    by_place (inr from) (inr after) = above words memory (address / 4) w (omega arith)
    by_place (inr from) (inl until) = absurd
        (false≢true (sym e ∙ rw (le-leb (address / 4) w from, lt-ltb w (address / 4 + count / 4) until)))
