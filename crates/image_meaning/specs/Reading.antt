-- The reading of a text: the order of the tests, the fold over the lines, what is stored, and what the reader answers (the scope, on
-- images and on the numbers). Lines are counted from 1. Assumes nothing.
use Rattle.std.specs.Prelude.{ℕ, suc, ◌+◌, ◌/◌, Bool, false, ◌&&◌, ◌||◌, cond, eqb, leb, length, Option, Some, None, Result}
use mathlib.Core.List.{List, [], ◌∷◌, foldl}
use Rattle.words.specs.Lengths.{legal_length}
use Rattle.answers.specs.Ends.{End}
use Rattle.std.specs.Prelude.{Ok, Err}
use Rattle.answers.specs.declared.Refusal.{Refusal}
use Rattle.answers.specs.declared.Refusal.TheVariants.{MemoryLength, TextLength, LineForm, LineSum, RecordType, Placement, EndRecord, RecordOrder}
use Rattle.answers.specs.Ends.{is_done}
use Rattle.image_placing.specs.declared.Misfit.TheVariants.{Misplaced, Early}
use Rattle.image_placing.specs.Placing.{Placed, placing, names, stored}
use Rattle.image_meaning.specs.declared.Record.{Record}
use Rattle.image_meaning.specs.declared.Reading.{Reading}
use Rattle.image_meaning.specs.declared.Reading.TheVariants.{Open, Ended}
use Rattle.image_meaning.specs.Digits.{words_of}
use Rattle.image_meaning.specs.Lines.{lines_of}
use Rattle.image_meaning.specs.Records.{record_of, count_of, address_of, kind_of, data_of}

abbrev pub most_text : ℕ
most_text = 262144

abbrev pub data_kind : ℕ
data_kind = 0

abbrev pub end_kind : ℕ
end_kind = 1

-- how the reading stands after some lines, or why the text is refused
abbrev pub ReadSoFar : Type 0
ReadSoFar = Result Reading Refusal

-- ---- one line

-- a data record: 13 and 15 are the placing's; where it fits, its data's end is the new one
abbrev pub data_read : Placed → ℕ → ℕ → ReadSoFar
data_read (Ok _) number end = Ok (Open end)
data_read (Err Misplaced) number end = Err (Placement number)
data_read (Err Early) number end = Err (RecordOrder number)

-- the line of a number, read when the last data ended at `end`: tested 10, 11, 12, 13, 15 in this order
unfoldable pub tested : ℕ → ℕ → ℕ → Option Record → ReadSoFar
tested m number end None = Err (LineForm number)
tested m number end (Some r) =
    cond (eqb r.sum 0)
    (cond (eqb r.heading.kind data_kind)
    (data_read (placing m end r.heading.address r.heading.count) number (r.heading.address + r.heading.count))
    (cond (eqb r.heading.kind end_kind)
    (cond (eqb r.heading.count 0 && eqb r.heading.address 0) (Ok Ended) (Err (Placement number)))
    (Err (RecordType number))))
    (Err (LineSum number))

-- a line behind the end record is refused 14 without further test; what is refused stays so
abbrev pub next : ℕ → ℕ → ReadSoFar → List ℕ → ReadSoFar
next m number (Ok (Open end)) line = tested m number end (record_of line)
next m number (Ok Ended) line = Err (EndRecord number)
next m number (Err why) line = Err why

-- ---- all lines

-- no line is left: 14 where no end record was read, with the number of lines read
abbrev pub finish : ℕ → ReadSoFar → End
finish lines (Ok (Open end)) = Err (EndRecord lines)
finish lines (Ok Ended) = Ok tt
finish lines (Err why) = Err why

-- the lines that are left, when some were read
unfoldable pub read_lines : ℕ → ℕ → ReadSoFar → List (List ℕ) → End
read_lines m lines reading [] = finish lines reading
read_lines m lines reading (line ∷ rest) = read_lines m (suc lines) (next m (suc lines) reading line) rest

abbrev pub judged : ℕ → List ℕ → End
judged m text = read_lines m 0 (Ok (Open 0)) (lines_of text)

-- ---- what is stored: the words of each data record. Asked of accepted texts alone, so each line is a record

abbrev pub with_line : List ℕ → List ℕ → List ℕ
with_line memory line =
    cond (eqb (kind_of line) data_kind) (stored memory (address_of line) (words_of (count_of line / 4) (data_of line))) memory

abbrev pub loaded : List ℕ → List ℕ → List ℕ
loaded memory text = foldl with_line memory (lines_of text)

-- the words that lines name: those of their data records
abbrev pub line_names : List ℕ → ℕ → Bool
line_names line w = cond (eqb (kind_of line) data_kind) (names (address_of line) (count_of line) w) false

abbrev pub named_in : List (List ℕ) → ℕ → Bool
named_in [] w = false
named_in (line ∷ lines) w = line_names line w || named_in lines w

-- ---- the reader: 1, then 9, then the lines; memory changes where nothing is refused, and nowhere else

unfoldable pub read_answer : List ℕ → List ℕ → End
read_answer memory text =
    cond (legal_length (length memory)) (cond (leb (length text) most_text) (judged (length memory) text) (Err TextLength)) (Err MemoryLength)

unfoldable pub memory_after : List ℕ → List ℕ → List ℕ
memory_after memory text = cond (is_done (read_answer memory text)) (loaded memory text) memory
