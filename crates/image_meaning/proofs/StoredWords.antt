-- After an accepted read each word that a data record names holds what that record says: no later record touches it.
use Prim.Native.Nat.{ℕ, zero, suc, ◌+◌, ◌*◌, ◌/◌, ◌%◌, ◌<◌, ◌≤◌}
use native.Mathlib.Nat.{le_of_suc-le-suc}
use native.Mathlib.Omega.{arith}
use mathlib.Core.Path.{◌≡◌, refl, sym, ap, ◌∙◌}
use mathlib.Core.Bool.{Bool, true, false, false≢true, cond}
use mathlib.Core.List.{List, [], ◌++◌, foldl, append_assoc}
use lib.ListN.{length, get_or, take, drop, get_or-append}
use lib.Seq.{sets, sets-eq, length-take-le, get_or-append-add}
use borrow.Author.Tests.{eq-eqb, lt-leb}
use Rattle.answers.specs.Ends.{End}
use Rattle.std.specs.Prelude.{Ok}
use Rattle.answers.specs.Ends.{is_done}
use Rattle.std.specs.Prelude.{Option, Some, None}
use Rattle.std.specs.Option.{is_some}
use Rattle.image_meaning.specs.declared.Record.{Record}
use Rattle.image_meaning.specs.Digits.{words_of, sum_of}
use Rattle.image_meaning.specs.Lines.{lines_of}
use Rattle.image_meaning.specs.Records.{is_record, record_of, saying, record_bytes, count_of, address_of, kind_of, data_of}
use Rattle.image_meaning.specs.Reading.{data_kind, with_line, line_names, read_answer, memory_after}
use Rattle.image_meaning.specs.Outcomes.{Outcome, TextOutcome}
use Rattle.image_meaning.specs.Outcomes.{data_record, end_record, no_record, sum_wrong, other_type, data_misplaced, end_misplaced, too_early, no_end_record, line_behind}
use Rattle.image_meaning.specs.Outcomes.{length_illegal, text_too_long, by_its_lines}
use Rattle.image_meaning.proofs.AsLent.{line_keeps, line_keeps_the_length, as_many}
use Rattle.image_meaning.proofs.ExactlyWhen.{exactly_when}

-- ---- a record's fields are those of its line

abbrev said_or : Option Record → Record
said_or None = record { heading = record { count = 0; address = 0; kind = 0 }; sum = 0 }
said_or (Some r) = r

module _ (line : List ℕ) {count address kind sum : ℕ} (s : record_of line ≡ saying count address kind sum) where
  fields : record_of line ≡ saying (count_of line) (address_of line) (kind_of line) (sum_of (record_bytes line) % 256)
  unfolding record_of
  fields = by_form (is_record line) s
    where
      by_form : (t : Bool) → cond t (saying (count_of line) (address_of line) (kind_of line) (sum_of (record_bytes line) % 256)) None
          ≡ saying count address kind sum →
          cond t (saying (count_of line) (address_of line) (kind_of line) (sum_of (record_bytes line) % 256)) None
          ≡ saying (count_of line) (address_of line) (kind_of line) (sum_of (record_bytes line) % 256)
      by_form true e = refl
      by_form false e = absurd (false≢true (ap is_some e))

  count_is : count_of line ≡ count
  count_is = ap (λ (s : Option Record). (said_or s).heading.count) (sym fields ∙ s)

  address_is : address_of line ≡ address
  address_is = ap (λ (s : Option Record). (said_or s).heading.address) (sym fields ∙ s)

  kind_is : kind_of line ≡ kind
  kind_is = ap (λ (s : Option Record). (said_or s).heading.kind) (sym fields ∙ s)

-- ---- later records

later_keeps : (m : ℕ) {n end : ℕ} {lines : List (List ℕ)} {why : End} → Outcome m n end lines why → is_done why ≡ true →
    (memory : List ℕ) (w : ℕ) → w < end / 4 → get_or (foldl with_line memory lines) w 0 ≡ get_or memory w 0
later_keeps m (data_record {n} {end} {count} {address} {line} {rest} s p o more) d memory w h =
    later_keeps m more d (with_line memory line) w (omega arith) ∙ line_keeps memory line w not_named
  where
    not_named : line_names line w ≡ false
    not_named = rw (kind_is line s, address_is line s, lt-leb (address / 4) w (omega arith))
later_keeps m (end_record {n} {end} {line} s) d memory w h = rw (kind_is line s)
later_keeps m (no_record s) d memory w h = absurd (false≢true d)
later_keeps m (sum_wrong s z) d memory w h = absurd (false≢true d)
later_keeps m (other_type s a b) d memory w h = absurd (false≢true d)
later_keeps m (data_misplaced s p) d memory w h = absurd (false≢true d)
later_keeps m (end_misplaced s z) d memory w h = absurd (false≢true d)
later_keeps m (too_early s p o) d memory w h = absurd (false≢true d)
later_keeps m no_end_record d memory w h = absurd (false≢true d)
later_keeps m (line_behind s) d memory w h = absurd (false≢true d)

-- ---- the record itself

stored_there : (words l : List ℕ) (i j : ℕ) → i + length words ≤ length l → j < length words → get_or (sets l i words)
    (i + j) 0 ≡ get_or words j 0
stored_there words l i j fits h =
    ap (λ (r : List ℕ). get_or r (i + j) 0) (sets-eq words l i fits ∙ append_assoc (take i l) words (drop (i + length words) l))
    ∙ ap (λ (n : ℕ). get_or (take i l ++ (words ++ drop (i + length words) l)) (n + j) 0) (sym (length-take-le i l (omega arith)))
    ∙ get_or-append-add (take i l) (words ++ drop (i + length words) l) j 0
    ∙ get_or-append words (drop (i + length words) l) 0 j h

-- word j of a line, and where it stands
abbrev said : List ℕ → ℕ → ℕ
said line j = get_or (words_of (count_of line / 4) (data_of line)) j 0

abbrev place : List ℕ → ℕ → ℕ
place line j = address_of line / 4 + j

line_stores : (memory line : List ℕ) (j m : ℕ) → kind_of line ≡ data_kind → j < count_of line / 4 →
    address_of line + count_of line ≤ 4 * m →
    length memory ≡ m → get_or (with_line memory line) (place line j) 0 ≡ said line j
line_stores memory line j m k h fits e =
    rw (eq-eqb (kind_of line) data_kind k)
    (stored_there (words_of (count_of line / 4) (data_of line)) memory (address_of line / 4) j
    (omega (arith, as_many (count_of line / 4) (data_of line)))
    (omega (arith, as_many (count_of line / 4) (data_of line))))

holds : (m : ℕ) {n end : ℕ} {lines : List (List ℕ)} {why : End} → Outcome m n end lines why → is_done why ≡ true →
    (memory : List ℕ) → length memory ≡ m → (k : ℕ) → k < length lines → kind_of (get_or lines k []) ≡ data_kind →
    (j : ℕ) → j < count_of (get_or lines k []) / 4 → get_or (foldl with_line memory lines) (place (get_or lines k []) j) 0 ≡ said
    (get_or lines k []) j
holds m (data_record {n} {end} {count} {address} {line} {rest} s p o more) d memory e zero h t j b =
    later_keeps m more d (with_line memory line) (place line j)
    (omega (arith, address_is line s, count_is line s, p.at_a_word, p.of_words))
    ∙ line_stores memory line j m t b (omega (arith, address_is line s, count_is line s, p.in_memory)) e
holds m (data_record {line = line} s p o more) d memory e (suc k) h t j b =
    holds m more d (with_line memory line) (line_keeps_the_length memory line ∙ e) k (le_of_suc-le-suc h) t j b
holds m (end_record {line = line} s) d memory e zero h t j b = absurd (omega (arith, kind_is line s, t))
holds m (end_record s) d memory e (suc k) h t j b = absurd (omega (arith, h))
holds m (no_record s) d memory e k h t j b = absurd (false≢true d)
holds m (sum_wrong s z) d memory e k h t j b = absurd (false≢true d)
holds m (other_type s x y) d memory e k h t j b = absurd (false≢true d)
holds m (data_misplaced s p) d memory e k h t j b = absurd (false≢true d)
holds m (end_misplaced s z) d memory e k h t j b = absurd (false≢true d)
holds m (too_early s p o) d memory e k h t j b = absurd (false≢true d)
holds m no_end_record d memory e k h t j b = absurd (false≢true d)
holds m (line_behind s) d memory e k h t j b = absurd (false≢true d)

-- ---- the whole text. Line k, counted from 0, is a data record, and j one of its words

module _ (memory text : List ℕ) (done : read_answer memory text ≡ Ok tt) (k : ℕ) (h : k < length (lines_of text)) where
  abbrev line : List ℕ
  line = get_or (lines_of text) k []

  pub named_words_hold_what_is_said : kind_of line ≡ data_kind → (j : ℕ) → j < count_of line / 4 →
      get_or (memory_after memory text) (address_of line / 4 + j) 0 ≡ get_or (words_of (count_of line / 4) (data_of line)) j 0
  unfolding memory_after
  named_words_hold_what_is_said t j b = rw done (by_outcome ((exactly_when memory text (Ok tt)).0 done) refl)
    where
      by_outcome : {why : End} → TextOutcome memory text why → is_done why ≡ true →
          get_or (foldl with_line memory (lines_of text)) (place line j) 0 ≡ said line j
      by_outcome (length_illegal l) d = absurd (false≢true d)
      by_outcome (text_too_long l long) d = absurd (false≢true d)
      by_outcome (by_its_lines l short o) d = holds (length memory) o d memory refl k h t j b
