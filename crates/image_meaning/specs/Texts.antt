-- Small texts and what the scope says of each, for a memory of 16 words: every number that a line can bring, with its line.
-- proofs/AnsweredTexts holds the reader's answer to them. Assumes nothing.
use Rattle.std.specs.Prelude.{ℕ, List, [], ◌∷◌}
use Prim.Native.String.{String, ◌++◌}
use Rattle.answers.specs.declared.Numbered.{Numbered}
use Rattle.answers.specs.Ends.{numbered}

pub record Row : Type 0 where
  pub text : String
  pub says : Numbered

abbrev pub row : String → ℕ → ℕ → Row
row text number line = record { text = text; says = numbered number line }

-- word 0, word 15, no word at byte 8, no word at byte 64, and the end record
abbrev pub first : String
first = ":0400000000000010EC\n"

abbrev pub last : String
last = ":04003C0000000000C0\n"

abbrev pub at_8 : String
at_8 = ":00000800F8\n"

abbrev pub at_64 : String
at_64 = ":00004000C0\n"

abbrev pub ended : String
ended = ":00000001FF\n"

abbrev pub rows : List Row
rows =
    row ended 0 0
    ∷ row (first ++ last ++ ended) 0 0
    -- either case, either end, no end on the last line
    ∷ row ":0400000000000010ec\r\n:00000001fF" 0 0
    -- no data at the very end of memory
    ∷ row (last ++ at_64 ++ ended) 0 0
    -- 10: blank, no colon, too few digits, too many, no digit, CR without LF, also at the end
    ∷ row (first ++ "\n" ++ ended) 10 2
    ∷ row "00000001FF\n" 10 1
    ∷ row ":0400000000000010E\n" 10 1
    ∷ row ":0400000000000010EC0\n" 10 1
    ∷ row ":040000000000001GEC\n" 10 1
    ∷ row (":0400000000000010EC\r" ++ ended) 10 1
    ∷ row (first ++ ":00000001FF\r") 10 2
    -- 11, also where the type is wrong too
    ∷ row ":0400000000000010ED\n" 11 1
    ∷ row ":020000040000FB\n" 11 1
    -- 12, also where the count is wrong too
    ∷ row ":020000040000FA\n" 12 1
    -- 13: count, address and extent, also where the order is wrong too; the end record's count and address
    ∷ row ":020000000000FE\n" 13 1
    ∷ row ":0400020000000000FA\n" 13 1
    ∷ row (first ++ ":0400400000000000BC\n") 13 2
    ∷ row (last ++ ":08003C000000000000000000BC\n") 13 2
    ∷ row ":00000401FB\n" 13 1
    ∷ row ":0400000100000000FB\n" 13 1
    -- 14: no end record, and anything after it, untested
    ∷ row "" 14 0
    ∷ row (first ++ last) 14 2
    ∷ row (ended ++ "\n") 14 2
    ∷ row (ended ++ ended) 14 2
    ∷ row (first ++ ended ++ ":" ++ first) 14 3
    -- 15, also after a record without data
    ∷ row (first ++ first) 15 2
    ∷ row (at_8 ++ first ++ ended) 15 2
    ∷ []
