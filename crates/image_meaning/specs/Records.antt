-- What a line says (the scope, on images): a colon, then count + 5 bytes as pairs of digits, of which the first is the count, two are the
-- address, the high byte first, one is the type, then the data and the checksum. Assumes nothing.
use Rattle.std.specs.Prelude.{ℕ, ◌+◌, ◌*◌, ◌%◌, Bool, ◌&&◌, cond, List, eqb, get_or, drop, Option, Some, None}
use Rattle.image_meaning.specs.declared.Heading.{Heading}
use Rattle.image_meaning.specs.declared.Record.{Record}
use Rattle.image_meaning.specs.Digits.{byte_of, bytes_of, all_bytes, sum_of}
use Rattle.image_meaning.specs.Lines.{is_end}

abbrev pub colon : ℕ
colon = 58

abbrev pub count_of : List ℕ → ℕ
count_of line = byte_of (drop 1 line)

-- all bytes of the record, from the count to the checksum
abbrev pub record_bytes : List ℕ → List ℕ
record_bytes line = bytes_of (count_of line + 5) (drop 1 line)

-- 10 is for a line that is not so: the colon, the bytes, each of two digits, and the end right behind them
abbrev pub is_record : List ℕ → Bool
is_record line = (eqb (get_or line 0 0) colon && all_bytes (record_bytes line)) && is_end (drop (11 + 2 * count_of line) line)

abbrev pub address_of : List ℕ → ℕ
address_of line = 256 * byte_of (drop 3 line) + byte_of (drop 5 line)

abbrev pub kind_of : List ℕ → ℕ
kind_of line = byte_of (drop 7 line)

-- the four bytes before the data
abbrev pub heading_of : List ℕ → Heading
heading_of line = record { count = count_of line; address = address_of line; kind = kind_of line }

-- what a line of record form says
abbrev pub saying : ℕ → ℕ → ℕ → ℕ → Option Record
saying count address kind sum = Some (record { heading = record { count = count; address = address; kind = kind }; sum = sum })

unfoldable pub record_of : List ℕ → Option Record
record_of line =
    cond (is_record line) (saying (count_of line) (address_of line) (kind_of line) (sum_of (record_bytes line) % 256)) None

-- the digits of the data
abbrev pub data_of : List ℕ → List ℕ
data_of line = drop 9 line
