-- The writer's data record of four words reads as those words at their place, behind the record before it; its end record ends the text.
use Prim.Native.Nat.{ℕ, suc, ◌+◌, ◌*◌, ◌/◌, ◌%◌, ◌^◌, ◌<◌, ◌≤◌}
use native.Mathlib.Omega.{arith}
use mathlib.Core.Path.{◌≡◌, refl, ap, ◌∙◌}
use mathlib.Core.Bool.{true, cond}
use lib.Dec.{eqb}
use mathlib.Core.List.{List, [], ◌∷◌, ◌++◌}
use lib.Seq.{sets}
use Rattle.std.specs.Prelude.{Ok}
use Rattle.image_meaning.specs.declared.Reading.TheVariants.{Open, Ended}
use Rattle.image_placing.specs.Placing.{stored}
use Rattle.image_placing.proofs.PlacingCases.{at_its_place}
use Rattle.image_meaning.specs.Digits.{all_bytes, word_bytes, words_of}
use Rattle.image_meaning.specs.Records.{record_of, saying, count_of, address_of, data_of}
use Rattle.image_meaning.specs.Reading.{data_kind, tested, with_line}
use Rattle.image_meaning.specs.Writing.{data_line, end_line}
use Rattle.image_meaning.proofs.WrittenDigits.{all_bytes_joined, word_bytes_are, word_read}
use Rattle.image_meaning.proofs.WrittenLines.{count_read, address_read, kind_read, record_written}

-- ---- the end record

pub end_said : record_of end_line ≡ saying 0 0 1 0
end_said = record_written 0 0 0 1 [] refl (omega arith) (omega arith) (omega arith) (omega arith) refl

pub text_ended : (m number end : ℕ) → tested m number end (record_of end_line) ≡ Ok Ended
unfolding tested
text_ended m number end = rw end_said

pub nothing_stored : (memory : List ℕ) → with_line memory end_line ≡ memory
nothing_stored memory =
    rw (kind_read 0 0 0 1 [] refl (omega arith) (omega arith) (omega arith) (omega arith) refl)

-- ---- a data record

module _ (i w x y z : ℕ) (hi : i < 4096) (hw : w < 2 ^ 32) (hx : x < 2 ^ 32) (hy : y < 2 ^ 32) (hz : z < 2 ^ 32) where
  all_are : all_bytes (word_bytes w ++ (word_bytes x ++ (word_bytes y ++ word_bytes z))) ≡ true
  all_are =
      all_bytes_joined (word_bytes w) (word_bytes x ++ (word_bytes y ++ word_bytes z)) (word_bytes_are w hw)
      (all_bytes_joined (word_bytes x) (word_bytes y ++ word_bytes z) (word_bytes_are x hx)
      (all_bytes_joined (word_bytes y) (word_bytes z) (word_bytes_are y hy) (word_bytes_are z hz)))

  abbrev contents : List ℕ
  contents = word_bytes w ++ (word_bytes x ++ (word_bytes y ++ word_bytes z))

  -- the address' two bytes
  two_bytes : 256 * (16 * i / 256) + 16 * i % 256 ≡ 16 * i
  two_bytes = omega arith

  high_lt : 16 * i / 256 < 256
  high_lt = omega arith

  low_lt : 16 * i % 256 < 256
  low_lt = omega arith

  pub data_said : record_of (data_line (16 * i) w x y z) ≡ saying 16 (16 * i) 0 0
  data_said =
      record_written 16 (16 * i / 256) (16 * i % 256) 0 contents refl (omega arith) high_lt low_lt (omega arith) all_are
      ∙ ap (λ (a : ℕ). saying 16 a 0 0) two_bytes

  pub words_read : words_of 4 (data_of (data_line (16 * i) w x y z)) ≡ w ∷ x ∷ y ∷ z ∷ []
  words_read = λ j. word_read w hw j ∷ word_read x hx j ∷ word_read y hy j ∷ word_read z hz j ∷ []

  pub words_placed : (m number : ℕ) → 4 * suc i ≤ m → tested m number (16 * i) (record_of (data_line (16 * i) w x y z)) ≡ Ok (Open (16 * suc i))
  unfolding tested
  words_placed m number h =
      rw (data_said, at_its_place m (16 * i) (16 * i) 16 (omega arith) refl (omega arith) (omega arith)) (ap (λ (e : ℕ). Ok (Open e)) (omega arith))

  abbrev line : List ℕ
  line = data_line (16 * i) w x y z

  pub words_stored : (memory : List ℕ) → with_line memory (data_line (16 * i) w x y z) ≡ sets memory (4 * i) (w ∷ x ∷ y ∷ z ∷ [])
  words_stored memory =
      ap (λ (k : ℕ). cond (eqb k data_kind) (stored memory (address_of line) (words_of (count_of line / 4) (data_of line))) memory)
      (kind_read 16 (16 * i / 256) (16 * i % 256) 0 contents refl (omega arith) high_lt low_lt (omega arith) all_are)
      ∙ ap (λ (a : ℕ). stored memory a (words_of (count_of line / 4) (data_of line)))
      (address_read 16 (16 * i / 256) (16 * i % 256) 0 contents refl (omega arith) high_lt low_lt (omega arith) all_are ∙ two_bytes)
      ∙ ap (λ (n : ℕ). stored memory (16 * i) (words_of (n / 4) (data_of line)))
      (count_read 16 (16 * i / 256) (16 * i % 256) 0 contents refl (omega arith) high_lt low_lt (omega arith) all_are)
      ∙ ap (sets memory (16 * i / 4)) words_read
      ∙ ap (λ (a : ℕ). sets memory a (w ∷ x ∷ y ∷ z ∷ [])) place
    where
      place : 16 * i / 4 ≡ 4 * i
      place = omega arith
