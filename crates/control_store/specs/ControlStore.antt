-- A lent control store: the word at an address, and the test of all (the scope's numbers 4 and 5). Its length is above the fetch address
-- and at most what a 6-bit counter can name (section 5.2.2, pp. 103-110); of its words the lowest that is not legal counts. Assumes nothing.
use Rattle.std.specs.Prelude.{ℕ, ◌^◌, Bool, cond, not, ◌&&◌, List, ltb, leb, length, get_or, Ok, Err}
use Rattle.std.specs.Result.{result_and}
use Rattle.answers.specs.declared.Refusal.TheVariants.{ProgramLength, Microword}
use Rattle.answers.specs.Ends.{End}
use Rattle.answers.specs.Places.{first_place}
use Rattle.answers.specs.Tests.{lent_test}
use Rattle.control_store.specs.Codes.{legal_microword}
use Rattle.control_store.specs.Sequencer.{fetch_address}

-- the microword at an address
unfoldable pub word_at : List ℕ → ℕ → ℕ
word_at urom mpc = get_or urom mpc 0

abbrev pub most_microwords : ℕ
most_microwords = 2 ^ 6

unfoldable pub legal_store_length : ℕ → Bool
legal_store_length n = ltb fetch_address n && leb n most_microwords

abbrev pub illegal : ℕ → Bool
illegal w = not (legal_microword w)

-- the lowest word that is not legal; the length where all are
abbrev pub lowest_illegal : List ℕ → ℕ
lowest_illegal program = first_place illegal program

unfoldable pub store_test : List ℕ → End
store_test program =
    cond (legal_store_length (length program))
    (cond (ltb (lowest_illegal program) (length program)) (Err (Microword (lowest_illegal program))) (Ok tt))
    (Err ProgramLength)

-- 1, 3, 4, 5: memory's length, register 0, the microprogram, which every call that runs microwords tests first
unfoldable pub machine_test : ℕ → ℕ → List ℕ → End
machine_test words register_0 program = result_and (lent_test words register_0) (store_test program)
