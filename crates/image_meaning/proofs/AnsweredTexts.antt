-- The texts of specs/Texts are answered as they say, and the image program's example is written as the scope prints it: both computed.
use Prim.Native.String.{◌++◌}
use mathlib.Core.Path.{◌≡◌, refl}
use mathlib.Core.List.{◌∷◌, map}
use lib.ListN.{replicate}
use Rattle.answers.specs.Ends.{shown}
use Rattle.image_placing.specs.Placing.{placing}
use Rattle.image_meaning.specs.Ascii.{ascii}
use Rattle.image_meaning.specs.Digits.{digit_value, paired, word_from, digit}
use Rattle.image_meaning.specs.Records.{record_of}
use Rattle.image_meaning.specs.Reading.{tested, read_lines, judged, loaded}
use Rattle.image_meaning.specs.Texts.{Row, rows, first, ended}
use Rattle.image_meaning.specs.Writing.{checksum, text_from, written_text}

pub answers_hold : map (λ (r : Row). shown (judged 16 (ascii r.text))) rows ≡ map (λ (r : Row). r.says) rows
unfolding digit_value paired record_of placing tested read_lines
answers_hold = refl

-- the image program's example (the scope, at the edges): word 0 read into 16 zero words is 16, its most significant byte first; and the
-- image of all
pub scope_example_read : loaded (replicate 16 0) (ascii (first ++ ended)) ≡ 16 ∷ replicate 15 0
unfolding digit_value paired record_of word_from
scope_example_read = refl

pub scope_example_written :
    written_text (loaded (replicate 16 0) (ascii (first ++ ended)))
    ≡ ascii
    (":1000000000000010000000000000000000000000E0\n" ++ ":1000100000000000000000000000000000000000E0\n"
    ++ ":1000200000000000000000000000000000000000D0\n" ++ ":1000300000000000000000000000000000000000C0\n" ++ ended)
unfolding digit_value paired record_of word_from digit checksum text_from
scope_example_written = refl
