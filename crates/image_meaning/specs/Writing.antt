-- The written text (the scope, on images): all M words, 16 bytes a record, upper case, LF, ascending, then the end record; and what the
-- writer answers. Assumes nothing.
use Rattle.std.specs.Prelude.{ℕ, suc, ◌+◌, ◌-◌, ◌*◌, ◌/◌, ◌%◌, cond, List, [], ◌∷◌, ◌++◌, leb, length, Result, Ok, Err}
use Rattle.std.proofs.lemmas.List.Edits.{sets}
use Rattle.words.specs.Lengths.{legal_length}
use Rattle.std.specs.Result.{is_ok}
use Rattle.answers.specs.declared.Refusal.{Refusal}
use Rattle.answers.specs.declared.Refusal.TheVariants.{MemoryLength, Room}
use Rattle.image_meaning.specs.Digits.{sum_of, hex, word_bytes}
use Rattle.image_meaning.specs.Lines.{lf}
use Rattle.image_meaning.specs.Records.{colon}

-- the byte that makes the sum of all bytes 0 modulo 256
unfoldable pub checksum : ℕ → ℕ
checksum sum = (256 - sum % 256) % 256

-- the line of a record, given its bytes before the checksum
abbrev pub line_of : List ℕ → List ℕ
line_of bytes = colon ∷ (hex (bytes ++ (checksum (sum_of bytes) ∷ [])) ++ (lf ∷ []))

-- four words: count 16, the address, type 0, the data
abbrev pub data_bytes : ℕ → ℕ → ℕ → ℕ → ℕ → List ℕ
data_bytes address w x y z =
    16 ∷ address / 256 ∷ address % 256 ∷ 0 ∷ (word_bytes w ++ (word_bytes x ++ (word_bytes y ++ word_bytes z)))

abbrev pub data_line : ℕ → ℕ → ℕ → ℕ → ℕ → List ℕ
data_line address w x y z = line_of (data_bytes address w x y z)

-- count 0, address 0, type 1
abbrev pub end_bytes : List ℕ
end_bytes = 0 ∷ 0 ∷ 0 ∷ 1 ∷ []

abbrev pub end_line : List ℕ
end_line = line_of end_bytes

-- the text from the ith four words on, at byte address 16 i. A legal length is a multiple of four, so fewer than four words are never
-- left
unfoldable pub text_from : ℕ → List ℕ → List ℕ
text_from i [] = end_line
text_from i (w ∷ []) = end_line
text_from i (w ∷ x ∷ []) = end_line
text_from i (w ∷ x ∷ y ∷ []) = end_line
text_from i (w ∷ x ∷ y ∷ z ∷ words) = data_line (16 * i) w x y z ++ text_from (suc i) words

abbrev pub written_text : List ℕ → List ℕ
written_text memory = text_from 0 memory

-- its length in bytes
abbrev pub written_length : ℕ → ℕ
written_length m = 11 * m + 12

-- ---- the writer: 1, then 16 with the bytes needed; the room changes where nothing is refused, and its rest nowhere

-- the bytes written, or why nothing is
abbrev pub Written : Type 0
Written = Result ℕ Refusal

unfoldable pub write_answer : List ℕ → List ℕ → Written
write_answer memory room =
    cond (legal_length (length memory))
    (cond (leb (written_length (length memory)) (length room)) (Ok (written_length (length memory)))
    (Err (Room (written_length (length memory)))))
    (Err MemoryLength)

unfoldable pub room_after : List ℕ → List ℕ → List ℕ
room_after memory room = cond (is_ok (write_answer memory room)) (sets room 0 (written_text memory)) room
