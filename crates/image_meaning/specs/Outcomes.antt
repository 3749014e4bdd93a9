-- Each number that a text can bring, with its line, exactly when (the scope, on the numbers), said without an order of tests: what stands
-- in front of the line that decides is data records, each at its place and at or after the end of the one before. proofs/ExactlyWhen holds
-- the reader's answer to it. Assumes nothing.
use Rattle.std.specs.Prelude.{ℕ, suc, ◌+◌, ◌<◌, ◌≤◌, ◌≡◌, true, false, List, [], ◌∷◌, length, None}
use Rattle.words.specs.Lengths.{legal_length}
use Rattle.answers.specs.Ends.{End}
use Rattle.std.specs.Prelude.{Ok, Err}
use Rattle.answers.specs.declared.Refusal.TheVariants.{MemoryLength, TextLength, LineForm, LineSum, RecordType, Placement, EndRecord, RecordOrder}
use Rattle.image_placing.specs.Placing.{WellPlaced}
use Rattle.image_meaning.specs.Lines.{lines_of}
use Rattle.image_meaning.specs.Records.{record_of, saying}
use Rattle.image_meaning.specs.Reading.{most_text, data_kind, end_kind}

-- the lines that are left, for m words, when n lines were read and the last data ended at `end`
pub data Outcome (m : ℕ) : ℕ → ℕ → List (List ℕ) → End → Type 0 where
  -- a data record that is as it must be: the rest decides
  data_record : {n end count address : ℕ} {line : List ℕ} {rest : List (List ℕ)} {why : End} →
      record_of line ≡ saying count address data_kind 0 → WellPlaced m address count → end ≤ address →
      Outcome m (suc n) (address + count) rest why → Outcome m n end (line ∷ rest) why
  -- accepted: the end record, and nothing after it
  end_record : {n end : ℕ} {line : List ℕ} → record_of line ≡ saying 0 0 end_kind 0 → Outcome m n end (line ∷ []) (Ok tt)
  -- 10
  no_record : {n end : ℕ} {line : List ℕ} {rest : List (List ℕ)} → record_of line ≡ None →
      Outcome m n end (line ∷ rest) (Err (LineForm (suc n)))
  -- 11
  sum_wrong : {n end count address kind sum : ℕ} {line : List ℕ} {rest : List (List ℕ)} →
      record_of line ≡ saying count address kind sum → (sum ≡ 0 → ⊥) → Outcome m n end (line ∷ rest) (Err (LineSum (suc n)))
  -- 12
  other_type : {n end count address kind : ℕ} {line : List ℕ} {rest : List (List ℕ)} →
      record_of line ≡ saying count address kind 0 → (kind ≡ data_kind → ⊥) → (kind ≡ end_kind → ⊥) →
      Outcome m n end (line ∷ rest) (Err (RecordType (suc n)))
  -- 13, of a data record and of the end record
  data_misplaced : {n end count address : ℕ} {line : List ℕ} {rest : List (List ℕ)} →
      record_of line ≡ saying count address data_kind 0 → (WellPlaced m address count → ⊥) →
      Outcome m n end (line ∷ rest) (Err (Placement (suc n)))
  end_misplaced : {n end count address : ℕ} {line : List ℕ} {rest : List (List ℕ)} →
      record_of line ≡ saying count address end_kind 0 → ((count ≡ 0) × (address ≡ 0) → ⊥) →
      Outcome m n end (line ∷ rest) (Err (Placement (suc n)))
  -- 15
  too_early : {n end count address : ℕ} {line : List ℕ} {rest : List (List ℕ)} →
      record_of line ≡ saying count address data_kind 0 → WellPlaced m address count → address < end →
      Outcome m n end (line ∷ rest) (Err (RecordOrder (suc n)))
  -- 14: no line is left, or one is left behind the end record
  no_end_record : {n end : ℕ} → Outcome m n end [] (Err (EndRecord n))
  line_behind : {n end : ℕ} {line more : List ℕ} {rest : List (List ℕ)} → record_of line ≡ saying 0 0 end_kind 0 →
      Outcome m n end (line ∷ more ∷ rest) (Err (EndRecord (suc (suc n))))

-- the whole text: 1, then 9, then its lines
pub data TextOutcome (memory text : List ℕ) : End → Type 0 where
  length_illegal : legal_length (length memory) ≡ false → TextOutcome memory text (Err MemoryLength)
  text_too_long : legal_length (length memory) ≡ true → most_text < length text → TextOutcome memory text (Err TextLength)
  by_its_lines : {why : End} → legal_length (length memory) ≡ true → length text ≤ most_text →
      Outcome (length memory) 0 0 (lines_of text) why → TextOutcome memory text why
