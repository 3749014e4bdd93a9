-- The first bad place of a list: it is bad, every place before it is good, and it is the length exactly where all are good.
use Prim.Native.Nat.{ℕ, zero, suc, ◌+◌, ◌<◌, ◌≤◌}
use native.Mathlib.Nat.{not-suc-le-zero, le_of_suc-le-suc}
use native.Mathlib.Numerals.{one-add}
use native.Mathlib.Omega.{arith}
use mathlib.Core.Path.{◌≡◌, refl, sym, ap, ◌∙◌}
use mathlib.Core.Bool.{Bool, true, false, cond}
use mathlib.Core.List.{List, [], ◌∷◌, ◌++◌}
use lib.ListN.{length, get_or, take}
use lib.Dec.{ltb}
use Rattle.std.specs.Prelude.{Some, None}
use Rattle.std.specs.List.{position}
use Rattle.std.proofs.lemmas.List.Recursion.{is_position_or_len}
use Rattle.answers.specs.Places.{first_place}

pub at_most : (bad : ℕ → Bool) (xs : List ℕ) → first_place bad xs ≤ length xs
unfolding first_place
at_most bad [] = omega arith
at_most bad (x ∷ xs) = go (bad x) (at_most bad xs)
  where
    go : (b : Bool) → first_place bad xs ≤ length xs → cond b 0 (suc (first_place bad xs)) ≤ suc (length xs)
    go true h = omega arith
    go false h = omega arith

pub bad_there : (bad : ℕ → Bool) (xs : List ℕ) → first_place bad xs < length xs → bad (get_or xs (first_place bad xs) 0) ≡ true
unfolding first_place
bad_there bad [] h = absurd (not-suc-le-zero h)
bad_there bad (x ∷ xs) h = go (bad x) refl (bad_there bad xs) h
  where
    go : (b : Bool) → bad x ≡ b → (first_place bad xs < length xs → bad (get_or xs (first_place bad xs) 0) ≡ true)
        → cond b 0 (suc (first_place bad xs)) < suc (length xs) → bad (get_or (x ∷ xs) (cond b 0 (suc (first_place bad xs))) 0) ≡ true
    go true e rest k = e
    go false e rest k = rest (le_of_suc-le-suc k)

pub good_before : (bad : ℕ → Bool) (xs : List ℕ) (k : ℕ) → k < first_place bad xs → bad (get_or xs k 0) ≡ false
unfolding first_place
good_before bad [] k h = absurd (not-suc-le-zero h)
good_before bad (x ∷ xs) k h = go (bad x) refl k (good_before bad xs) h
  where
    go : (b : Bool) → bad x ≡ b → (k : ℕ) → ((j : ℕ) → j < first_place bad xs → bad (get_or xs j 0) ≡ false)
        → k < cond b 0 (suc (first_place bad xs)) → bad (get_or (x ∷ xs) k 0) ≡ false
    go true e k rest h = absurd (not-suc-le-zero h)
    go false e zero rest h = e
    go false e (suc j) rest h = rest j (le_of_suc-le-suc h)

-- the library's search finds that place, where there is one
pub position_is : (bad : ℕ → Bool) (xs : List ℕ) → position bad xs ≡ cond (ltb (first_place bad xs) (length xs)) (Some (first_place bad xs)) None
unfolding first_place
position_is bad xs = sym (rw (is_position_or_len (first_place bad) bad refl (λ x rest. first_turn x rest) xs) refl)
  where
    first_turn : (x : ℕ) (rest : List ℕ) → first_place bad (x ∷ rest) ≡ cond (bad x) 0 (1 + first_place bad rest)
    first_turn x rest = rw one-add refl

-- .. so what it finds is that place, and it is below the length
pub found : (bad : ℕ → Bool) (xs : List ℕ) {place : ℕ} → position bad xs ≡ Some place
    → (first_place bad xs ≡ place) × (ltb (first_place bad xs) (length xs) ≡ true)
found bad xs e = go (ltb (first_place bad xs) (length xs)) (sym (position_is bad xs) ∙ e)
  where
    go : (b : Bool) {place : ℕ} → cond b (Some (first_place bad xs)) None ≡ Some place → (first_place bad xs ≡ place) × (b ≡ true)
    go true e = (cc, refl)
    go false e = absurd cc

-- .. and where it finds none, none is below the length
pub not_found : (bad : ℕ → Bool) (xs : List ℕ) → position bad xs ≡ None → ltb (first_place bad xs) (length xs) ≡ false
not_found bad xs e = go (ltb (first_place bad xs) (length xs)) (sym (position_is bad xs) ∙ e)
  where
    go : (b : Bool) → cond b (Some (first_place bad xs)) None ≡ None → b ≡ false
    go true e = absurd cc
    go false e = refl

-- ---- lists without a bad place
pub none_in_join : (bad : ℕ → Bool) (xs ys : List ℕ) → first_place bad xs ≡ length xs → first_place bad ys ≡ length ys
    → first_place bad (xs ++ ys) ≡ length (xs ++ ys)
unfolding first_place
none_in_join bad [] ys e f = f
none_in_join bad (x ∷ xs) ys e f = go (bad x) e (none_in_join bad xs ys)
  where
    go : (b : Bool) → cond b 0 (suc (first_place bad xs)) ≡ suc (length xs)
        → (first_place bad xs ≡ length xs → first_place bad ys ≡ length ys → first_place bad (xs ++ ys) ≡ length (xs ++ ys))
        → cond b 0 (suc (first_place bad (xs ++ ys))) ≡ suc (length (xs ++ ys))
    go true e rest = absurd (omega arith)
    go false e rest = ap suc (rest (omega arith) f)

pub none_in_front : (bad : ℕ → Bool) (j : ℕ) (xs : List ℕ) → first_place bad xs ≡ length xs → first_place bad (take j xs) ≡ length (take j xs)
unfolding first_place
none_in_front bad zero xs e = refl
none_in_front bad (suc j) [] e = refl
none_in_front bad (suc j) (x ∷ xs) e = go (bad x) e (none_in_front bad j xs)
  where
    go : (b : Bool) → cond b 0 (suc (first_place bad xs)) ≡ suc (length xs)
        → (first_place bad xs ≡ length xs → first_place bad (take j xs) ≡ length (take j xs))
        → cond b 0 (suc (first_place bad (take j xs))) ≡ suc (length (take j xs))
    go true e rest = absurd (omega arith)
    go false e rest = ap suc (rest (omega arith))
