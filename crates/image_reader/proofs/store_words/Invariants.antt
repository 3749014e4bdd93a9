-- Storing what is left from here is storing all from the start.
use Rattle.std.proofs.Common.{◌≡◌, ◌+◌, ◌-◌, ◌*◌, drop}
use Rattle.std.proofs.lemmas.List.Edits.{sets}
use Rattle.image_meaning.specs.Digits.{words_of}
use Rattle.image_meaning.specs.Records.{data_of}
use Rattle.image_reader.proofs.store_words.Given as goal

abbrev pub invariant-loop-k : goal.invariant-loop-k
invariant-loop-k l =
    sets l.initial.memory l.first (words_of l.count (data_of l.line))
    ≡ sets l.memory (l.first + l.k) (words_of (l.count - l.k) (drop (9 + 8 * l.k) l.line))
