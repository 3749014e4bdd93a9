-- The test of a control store, case by case; and its meaning: 4 exactly for a length past 1 to 64, 5 with the lowest illegal word, and
-- done exactly when every word is legal.
use Prim.Native.Nat.{ℕ, ◌<◌, ◌≤◌}
use native.Mathlib.Omega.{arith}
use mathlib.Core.Path.{◌≡◌, refl, ap}
use mathlib.Core.Bool.{Bool, true, false, false≢true, not, cond, ◌&&◌}
use mathlib.Core.List.{List}
use lib.Dec.{ltb, leb}
use lib.ListN.{length, get_or}
use borrow.Author.Tests.{lt-ltb, le-ltb, ltb-true}
use Rattle.words.proofs.Cases.{turned, upright}
use Rattle.std.specs.Prelude.{Ok, Err}
use Rattle.answers.specs.declared.Refusal.TheVariants.{ProgramLength, Microword}
use Rattle.answers.specs.Ends.{End, shown, is_done}
use Rattle.answers.proofs.FirstPlace.{bad_there, good_before}
use Rattle.control_store.specs.Codes.{legal_microword}
use Rattle.control_store.specs.ControlStore.{most_microwords, legal_store_length, illegal, lowest_illegal, store_test}
use Rattle.control_store.specs.Sequencer.{fetch_address}

module _ (program : List ℕ) where
  pub bad_length : not (legal_store_length (length program)) ≡ true → store_test program ≡ Err ProgramLength
  unfolding store_test
  bad_length h = rw (turned (legal_store_length (length program)) h)

  pub bad_word : not (legal_store_length (length program)) ≡ false → lowest_illegal program < length program
      → store_test program ≡ Err (Microword (lowest_illegal program))
  unfolding store_test
  bad_word h l = rw (upright (legal_store_length (length program)) h, lt-ltb (lowest_illegal program) (length program) l)

  pub all_legal : not (legal_store_length (length program)) ≡ false → length program ≤ lowest_illegal program → store_test program ≡ Ok tt
  unfolding store_test
  all_legal h l = rw (upright (legal_store_length (length program)) h, le-ltb (lowest_illegal program) (length program) l)

-- 5's word is illegal, and every word below it is legal
pub lowest : (program : List ℕ) → lowest_illegal program < length program
    → (legal_microword (get_or program (lowest_illegal program) 0) ≡ false)
    × ((k : ℕ) → k < lowest_illegal program → legal_microword (get_or program k 0) ≡ true)
lowest program h = (turned _ (bad_there illegal program h), λ k l. upright _ (good_before illegal program k l))

-- where no word is illegal, each is legal
pub each_legal : (program : List ℕ) → length program ≤ lowest_illegal program → (k : ℕ) → k < length program → legal_microword (get_or program k 0) ≡ true
each_legal program h k l = upright _ (good_before illegal program k (omega arith))

-- a store that passes has a word at fetch
pub some_word : (program : List ℕ) → store_test program ≡ Ok tt → fetch_address < length program
unfolding store_test legal_store_length
some_word program e = by_length (ltb fetch_address (length program)) (ltb-true fetch_address (length program)) (leb (length program) most_microwords) e
  where
    words : End
    words = cond (ltb (lowest_illegal program) (length program)) (Err (Microword (lowest_illegal program))) (Ok tt)

    by_length : (b : Bool) → (b ≡ true → fetch_address < length program) → (c : Bool) → cond (b && c) words (Err ProgramLength) ≡ Ok tt → fetch_address < length program
    by_length true f c e = f refl
    by_length false f c e = absurd (false≢true (ap is_done e))

-- the test gives no number but 0, 4 and 5
pub at_most_5 : (program : List ℕ) → (shown (store_test program)).number ≤ 5
unfolding store_test
at_most_5 program = by_tests (legal_store_length (length program)) (ltb (lowest_illegal program) (length program))
  where
    by_tests : (b c : Bool) → (shown (cond b (cond c (Err (Microword (lowest_illegal program))) (Ok tt)) (Err ProgramLength))).number ≤ 5
    by_tests true true = omega arith
    by_tests true false = omega arith
    by_tests false c = omega arith
