-- The reader's answer is what a text brings: each number exactly when, and accepted exactly when.
use Prim.Native.Nat.{ℕ, suc, ◌+◌}
use mathlib.Core.Path.{◌≡◌, refl, sym, ap, subst, ◌∙◌}
use mathlib.Core.Bool.{Bool, true, false, ◌&&◌, cond}
use mathlib.Core.List.{List, [], ◌∷◌}
use mathlib.Core.Logic.{◌↔◌}
use lib.Dec.{eqb, leb}
use lib.ListN.{length}
use borrow.Author.Tests.{eqb-true, eqb-false, ne_eqb, le-leb, lt-leb, leb-true, leb-false}
use Rattle.words.specs.Lengths.{legal_length}
use Rattle.answers.specs.Ends.{End}
use Rattle.std.specs.Prelude.{Option, Some, None, Ok, Err}
use Rattle.answers.specs.declared.Refusal.{Refusal}
use Rattle.answers.specs.declared.Refusal.TheVariants.{MemoryLength, TextLength, LineSum, RecordType, Placement, EndRecord}
use Rattle.image_placing.specs.Placing.{Placed, placing, Stands, fits, early, misplaced}
use Rattle.image_placing.proofs.StandsExactly.{stands_exactly}
use Rattle.image_meaning.specs.declared.Record.{Record}
use Rattle.image_meaning.specs.declared.Reading.TheVariants.{Open, Ended}
use Rattle.image_meaning.specs.Lines.{lines_of}
use Rattle.image_meaning.specs.Records.{record_of, saying}
use Rattle.image_meaning.specs.Reading.{ReadSoFar, most_text, data_kind, end_kind, data_read, tested, read_lines, judged, read_answer}
use Rattle.image_meaning.specs.Outcomes.{Outcome, TextOutcome}
use Rattle.image_meaning.specs.Outcomes.{data_record, end_record, no_record, sum_wrong, other_type, data_misplaced, end_misplaced, too_early, no_end_record, line_behind}
use Rattle.image_meaning.specs.Outcomes.{length_illegal, text_too_long, by_its_lines}

-- ---- what is refused stays so

pub refused_stays : (m lines : ℕ) (why : Refusal) (rest : List (List ℕ)) → read_lines m lines (Err why) rest ≡ Err why
unfolding read_lines
refused_stays m lines why [] = refl
refused_stays m lines why (line ∷ rest) = refused_stays m (suc lines) why rest

-- ---- the lines bring what is answered

module _ (m n end : ℕ) (line : List ℕ) (rest : List (List ℕ)) where
  -- what a reading after this line comes to is an outcome of this line and the rest
  abbrev Comes : ReadSoFar → Type 0
  Comes r = Outcome m n end (line ∷ rest) (read_lines m (suc n) r rest)

  refused : (why : Refusal) → Outcome m n end (line ∷ rest) (Err why) → Comes (Err why)
  refused why o = subst (Outcome m n end (line ∷ rest)) (sym (refused_stays m (suc n) why rest)) o

-- the end record: nothing may follow
closes : (m n end : ℕ) (line : List ℕ) (rest : List (List ℕ)) → record_of line ≡ saying 0 0 end_kind 0 → Comes m n end line rest (Ok Ended)
unfolding read_lines
closes m n end line [] s = end_record s
closes m n end line (more ∷ rest) s =
    subst (Outcome m n end (line ∷ more ∷ rest)) (sym (refused_stays m (suc (suc n)) (EndRecord (suc (suc n))) rest)) (line_behind s)

module _ (m n end : ℕ) (line : List ℕ) (rest : List (List ℕ))
    (go_on : (next : ℕ) → Outcome m (suc n) next rest (read_lines m (suc n) (Ok (Open next)) rest)) where
  module _ (count address kind sum : ℕ) (s : record_of line ≡ saying count address kind sum) where
    placed : (p : Placed) → Stands m end address count p → record_of line ≡ saying count address data_kind 0 →
        Comes m n end line rest (data_read p (suc n) (address + count))
    placed p (fits w o) r = data_record r w o (go_on (address + count))
    placed p (early w o) r = refused m n end line rest _ (too_early r w o)
    placed p (misplaced w) r = refused m n end line rest _ (data_misplaced r w)

    closed : (c a : Bool) → eqb count 0 ≡ c → eqb address 0 ≡ a → record_of line ≡ saying count address end_kind 0 →
        Comes m n end line rest (cond (c && a) (Ok Ended) (Err (Placement (suc n))))
    closed true true e f r =
        closes m n end line rest (r ∙ λ i. saying (eqb-true count 0 e i) (eqb-true address 0 f i) end_kind 0)
    closed true false e f r = refused m n end line rest _ (end_misplaced r (λ z. eqb-false address 0 f z.1))
    closed false a e f r = refused m n end line rest _ (end_misplaced r (λ z. eqb-false count 0 e z.0))

    by_type : (d e : Bool) → eqb kind data_kind ≡ d → eqb kind end_kind ≡ e → sum ≡ 0 →
        Comes m n end line rest
        (cond d (data_read (placing m end address count) (suc n) (address + count))
        (cond e (cond (eqb count 0 && eqb address 0) (Ok Ended) (Err (Placement (suc n)))) (Err (RecordType (suc n)))))
    by_type true e f g z =
        placed (placing m end address count) ((stands_exactly m end address count (placing m end address count)).0 refl)
        (s ∙ λ i. saying count address (eqb-true kind data_kind f i) (z i))
    by_type false true f g z =
        closed (eqb count 0) (eqb address 0) refl refl (s ∙ λ i. saying count address (eqb-true kind end_kind g i) (z i))
    by_type false false f g z =
        refused m n end line rest _
        (other_type (s ∙ ap (saying count address kind) z) (eqb-false kind data_kind f) (eqb-false kind end_kind g))

    by_sum : (t : Bool) → eqb sum 0 ≡ t →
        Comes m n end line rest
        (cond t
        (cond (eqb kind data_kind) (data_read (placing m end address count) (suc n) (address + count))
        (cond (eqb kind end_kind) (cond (eqb count 0 && eqb address 0) (Ok Ended) (Err (Placement (suc n))))
        (Err (RecordType (suc n)))))
        (Err (LineSum (suc n))))
    by_sum true e = by_type (eqb kind data_kind) (eqb kind end_kind) refl refl (eqb-true sum 0 e)
    by_sum false e = refused m n end line rest _ (sum_wrong s (eqb-false sum 0 e))

  by_line : (said : Option Record) → record_of line ≡ said → Comes m n end line rest (tested m (suc n) end said)
  unfolding tested
  by_line None s = refused m n end line rest _ (no_record s)
  by_line (Some r) s = by_sum r.heading.count r.heading.address r.heading.kind r.sum s (eqb r.sum 0) refl

brought : (m n end : ℕ) (lines : List (List ℕ)) → Outcome m n end lines (read_lines m n (Ok (Open end)) lines)
unfolding read_lines
brought m n end [] = no_end_record
brought m n end (line ∷ rest) = by_line m n end line rest (λ next. brought m (suc n) next rest) (record_of line) refl

-- ---- and bring nothing else

not_both : (count address : ℕ) → ((count ≡ 0) × (address ≡ 0) → ⊥) → (eqb count 0 && eqb address 0) ≡ false
not_both count address h = by_tests (eqb count 0) (eqb address 0) refl refl
  where
    by_tests : (c a : Bool) → eqb count 0 ≡ c → eqb address 0 ≡ a → (c && a) ≡ false
    by_tests true true e f = absurd (h (eqb-true count 0 e, eqb-true address 0 f))
    by_tests true false e f = refl
    by_tests false a e f = refl

module _ (m n end : ℕ) (line : List ℕ) (rest : List (List ℕ)) {said : Option Record} (s : record_of line ≡ said) where
  after : {why : End} {r : ReadSoFar} → tested m (suc n) end said ≡ r → read_lines m (suc n) r rest ≡ why → read_lines m n (Ok (Open end))
      (line ∷ rest) ≡ why
  unfolding read_lines
  after e d =
      ap (λ (l : Option Record). read_lines m (suc n) (tested m (suc n) end l) rest) s ∙ ap (λ (r : ReadSoFar). read_lines m (suc n) r rest) e ∙ d

  refuses : {why : Refusal} → tested m (suc n) end said ≡ Err why → read_lines m n (Ok (Open end)) (line ∷ rest) ≡ Err why
  refuses {why} e = after e (refused_stays m (suc n) why rest)

by_place : (m n end count address : ℕ) {p : Placed} → Stands m end address count p →
    tested m (suc n) end (saying count address data_kind 0) ≡ data_read p (suc n) (address + count)
unfolding tested
by_place m n end count address {p} s =
    ap (λ (q : Placed). data_read q (suc n) (address + count)) ((stands_exactly m end address count p).1 s)

answered : (m : ℕ) {n end : ℕ} {lines : List (List ℕ)} {why : End} → Outcome m n end lines why → read_lines m n (Ok (Open end)) lines ≡ why
unfolding read_lines tested
answered m (data_record {n} {end} {count} {address} {line} {rest} s w o more) =
    after m n end line rest s (by_place m n end count address (fits w o)) (answered m more)
answered m (end_record {n} {end} {line} s) = after m n end line [] s refl refl
answered m (no_record {n} {end} {line} {rest} s) = refuses m n end line rest s refl
answered m (sum_wrong {n} {end} {count} {address} {kind} {sum} {line} {rest} s h) = refuses m n end line rest s (rw (ne_eqb sum 0 h))
answered m (other_type {n} {end} {count} {address} {kind} {line} {rest} s d e) =
    refuses m n end line rest s (rw (ne_eqb kind data_kind d, ne_eqb kind end_kind e))
answered m (data_misplaced {n} {end} {count} {address} {line} {rest} s w) =
    refuses m n end line rest s (by_place m n end count address (misplaced w))
answered m (end_misplaced {n} {end} {count} {address} {line} {rest} s h) = refuses m n end line rest s (rw (not_both count address h))
answered m (too_early {n} {end} {count} {address} {line} {rest} s w o) =
    refuses m n end line rest s (by_place m n end count address (early w o))
answered m no_end_record = refl
answered m (line_behind {n} {end} {line} {more} {rest} s) =
    after m n end line (more ∷ rest) s refl (refused_stays m (suc (suc n)) (EndRecord (suc (suc n))) rest)

pub lines_exactly : (m : ℕ) (text : List ℕ) (why : End) → (judged m text ≡ why) ↔ Outcome m 0 0 (lines_of text) why
lines_exactly m text why = (λ e. subst (Outcome m 0 0 (lines_of text)) e (brought m 0 0 (lines_of text)), answered m)

-- ---- the whole text

module _ (memory text : List ℕ) where
  text_brought : TextOutcome memory text (read_answer memory text)
  unfolding read_answer
  text_brought = by_tests (legal_length (length memory)) (leb (length text) most_text) refl refl
    where
      by_tests : (l s : Bool) → legal_length (length memory) ≡ l → leb (length text) most_text ≡ s →
          TextOutcome memory text (cond l (cond s (judged (length memory) text) (Err TextLength)) (Err MemoryLength))
      by_tests true true e f = by_its_lines e (leb-true (length text) most_text f) (brought (length memory) 0 0 (lines_of text))
      by_tests true false e f = text_too_long e (leb-false (length text) most_text f)
      by_tests false s e f = length_illegal e

  text_answered : {why : End} → TextOutcome memory text why → read_answer memory text ≡ why
  unfolding read_answer
  text_answered (length_illegal h) = rw h
  text_answered (text_too_long l h) = rw (l, lt-leb (length text) most_text h)
  text_answered (by_its_lines l h o) = rw (l, le-leb (length text) most_text h) (answered (length memory) o)

  pub exactly_when : (why : End) → (read_answer memory text ≡ why) ↔ TextOutcome memory text why
  exactly_when why = (λ e. subst (TextOutcome memory text) e text_brought, text_answered)
