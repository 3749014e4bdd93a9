-- A word at a place of a text is the four bytes that stand there, two digits apart.
use Prim.Native.Nat.{ℕ, ◌+◌}
use mathlib.Core.Path.{◌≡◌}
use mathlib.Core.List.{List}
use lib.ListN.{drop}
use lib.Seq.{drop-drop}
use Rattle.image_meaning.specs.Digits.{byte_of, word_from, word_of}

pub word_at : (text : List ℕ) (at : ℕ) →
    word_of (drop at text) ≡ word_from (byte_of (drop at text)) (byte_of (drop (at + 2) text)) (byte_of (drop (at + 4) text))
    (byte_of (drop (at + 6) text))
word_at text at = rw (drop-drop 2 at text, drop-drop 4 at text, drop-drop 6 at text)
