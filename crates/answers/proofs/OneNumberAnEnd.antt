-- No two ends have the same number and the same value with it, so the number and value shown tell which end it was; and no other end than
-- done counts as done.
use mathlib.Core.Path.{◌≡◌, refl, sym, ap, ◌∙◌}
use Rattle.std.specs.Prelude.{Ok, Err}
use Rattle.answers.specs.declared.Refusal.TheVariants.{MemoryLength, RegisterCount, RegisterZero, ProgramLength, Microword, Outside, Request, NextAddress, TextLength, LineForm, LineSum, RecordType, Placement, EndRecord, RecordOrder, Room, WalkLeaves, WalkNotBack}
use Rattle.answers.specs.declared.Numbered.{Numbered}
use Rattle.answers.specs.Ends.{End, shown, is_done}
use mathlib.Core.Bool.{true, cond}
use lib.Dec.{eqb}

-- the end that a number and its value belong to
abbrev end_of : Numbered → End
end_of n =
    cond (eqb n.number 0) (Ok tt)
    (cond (eqb n.number 1) (Err MemoryLength)
    (cond (eqb n.number 2) (Err RegisterCount)
    (cond (eqb n.number 3) (Err RegisterZero)
    (cond (eqb n.number 4) (Err ProgramLength)
    (cond (eqb n.number 5) (Err (Microword n.at))
    (cond (eqb n.number 6) (Err Outside)
    (cond (eqb n.number 7) (Err (Request n.at))
    (cond (eqb n.number 8) (Err NextAddress)
    (cond (eqb n.number 9) (Err TextLength)
    (cond (eqb n.number 10) (Err (LineForm n.at))
    (cond (eqb n.number 11) (Err (LineSum n.at))
    (cond (eqb n.number 12) (Err (RecordType n.at))
    (cond (eqb n.number 13) (Err (Placement n.at))
    (cond (eqb n.number 14) (Err (EndRecord n.at))
    (cond (eqb n.number 15) (Err (RecordOrder n.at))
    (cond (eqb n.number 16) (Err (Room n.at))
    (cond (eqb n.number 17) (Err (WalkLeaves n.at))
    (Err (WalkNotBack n.at)))))))))))))))))))

back : (end : End) → end_of (shown end) ≡ end
back (Ok _) = refl
back (Err MemoryLength) = refl
back (Err RegisterCount) = refl
back (Err RegisterZero) = refl
back (Err ProgramLength) = refl
back (Err (Microword word)) = refl
back (Err Outside) = refl
back (Err (Request place)) = refl
back (Err NextAddress) = refl
back (Err TextLength) = refl
back (Err (LineForm line)) = refl
back (Err (LineSum line)) = refl
back (Err (RecordType line)) = refl
back (Err (Placement line)) = refl
back (Err (EndRecord line)) = refl
back (Err (RecordOrder line)) = refl
back (Err (Room bytes)) = refl
back (Err (WalkLeaves word)) = refl
back (Err (WalkNotBack word)) = refl

pub one_number_an_end : (a b : End) → shown a ≡ shown b → a ≡ b
one_number_an_end a b same = sym (back a) ∙ ap end_of same ∙ back b

pub only_done_is_done : (end : End) → is_done end ≡ true → end ≡ Ok tt
only_done_is_done (Ok _) t = refl
only_done_is_done (Err refusal) t = cc

-- done is number 0, and no refusal is
pub done_is_0 : (end : End) → is_done end ≡ eqb (shown end).number 0
done_is_0 (Ok _) = refl
done_is_0 (Err MemoryLength) = refl
done_is_0 (Err RegisterCount) = refl
done_is_0 (Err RegisterZero) = refl
done_is_0 (Err ProgramLength) = refl
done_is_0 (Err (Microword word)) = refl
done_is_0 (Err Outside) = refl
done_is_0 (Err (Request place)) = refl
done_is_0 (Err NextAddress) = refl
done_is_0 (Err TextLength) = refl
done_is_0 (Err (LineForm line)) = refl
done_is_0 (Err (LineSum line)) = refl
done_is_0 (Err (RecordType line)) = refl
done_is_0 (Err (Placement line)) = refl
done_is_0 (Err (EndRecord line)) = refl
done_is_0 (Err (RecordOrder line)) = refl
done_is_0 (Err (Room bytes)) = refl
done_is_0 (Err (WalkLeaves word)) = refl
done_is_0 (Err (WalkNotBack word)) = refl
