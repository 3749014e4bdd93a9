-- How a call ends: done, or refused. The scope's numbers for the refusals, with what goes with each: for 5, 17 and 18 the word and for 7 the
-- place, counted from 0; for 10 to 15 the line, counted from 1, where 14 without an end record has the number of lines; for 16 the bytes
-- needed. Only the C calls answer 2: they are lent registers as a list. Assumes nothing.
use Rattle.std.specs.Prelude.{ℕ, Bool, Result, Ok, Err}
use Rattle.std.specs.Result.{is_ok}
use Rattle.answers.specs.declared.Refusal.{Refusal}
use Rattle.answers.specs.declared.Refusal.TheVariants.{MemoryLength, RegisterCount, RegisterZero, ProgramLength, Microword, Outside, Request, NextAddress, TextLength, LineForm, LineSum, RecordType, Placement, EndRecord, RecordOrder, Room, WalkLeaves, WalkNotBack}
use Rattle.answers.specs.declared.Numbered.{Numbered}

abbrev pub End : Type 0
End = Result Unit Refusal

abbrev pub numbered : ℕ → ℕ → Numbered
numbered number at = record { number = number; at = at }

abbrev pub refusal_shown : Refusal → Numbered
refusal_shown MemoryLength = numbered 1 0
refusal_shown RegisterCount = numbered 2 0
refusal_shown RegisterZero = numbered 3 0
refusal_shown ProgramLength = numbered 4 0
refusal_shown (Microword word) = numbered 5 word
refusal_shown Outside = numbered 6 0
refusal_shown (Request place) = numbered 7 place
refusal_shown NextAddress = numbered 8 0
refusal_shown TextLength = numbered 9 0
refusal_shown (LineForm line) = numbered 10 line
refusal_shown (LineSum line) = numbered 11 line
refusal_shown (RecordType line) = numbered 12 line
refusal_shown (Placement line) = numbered 13 line
refusal_shown (EndRecord line) = numbered 14 line
refusal_shown (RecordOrder line) = numbered 15 line
refusal_shown (Room bytes) = numbered 16 bytes
refusal_shown (WalkLeaves word) = numbered 17 word
refusal_shown (WalkNotBack word) = numbered 18 word

-- done is 0
abbrev pub shown : End → Numbered
shown (Ok _) = numbered 0 0
shown (Err refusal) = refusal_shown refusal

abbrev pub is_done : End → Bool
is_done end = is_ok end
