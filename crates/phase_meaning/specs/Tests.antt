-- What a call tests of what it is lent, in the order of the scope's numbers. Assumes nothing.
use Rattle.std.specs.Prelude.{ℕ, cond, ◌&&◌, List, ltb, leb, length, Ok, Err}
use Rattle.std.specs.Result.{result_and}
use Rattle.words.specs.Registers.{register}
use Rattle.answers.specs.declared.Refusal.TheVariants.{Microword, Outside, Request}
use Rattle.answers.specs.Ends.{End}
use Rattle.control_store.specs.Codes.{legal_microword}
use Rattle.control_store.specs.ControlStore.{machine_test}
use Rattle.phase_meaning.specs.Machine.{PhaseState}

-- the largest request byte: interrupt and reset
abbrev pub most_microcycle_request : ℕ
most_microcycle_request = 3

-- the number of phase four, the last
abbrev pub last_phase : ℕ
last_phase = 3

-- a phase call's: after the microprogram its MIR, as the word numbered by the length, then MPC and phase number, then the request
unfoldable pub phase_test : ℕ → List ℕ → PhaseState → ℕ → End
phase_test words program s request =
    result_and (machine_test words (register s.registers 0) program)
    (cond (legal_microword s.mir)
    (cond (ltb s.mpc (length program) && leb s.phase last_phase)
    (cond (leb request most_microcycle_request) (Ok tt) (Err (Request 0)))
    (Err Outside))
    (Err (Microword (length program))))
