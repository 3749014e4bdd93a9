-- The phase level's state (the tuple of pp. 110-112, memory apart) in its two forms: with the PSW as a number, as a caller lends it, and
-- with the PSW as its six bits, as the phases see it. Assumes nothing.
use Rattle.std.specs.Prelude.{ℕ}
use Rattle.status.specs.declared.psw.Psw.{Psw}
use Rattle.status.specs.Psw.{mk_psw, get_psw}
use Rattle.phase_meaning.specs.declared.PhaseLevel.{PhaseLevel}

abbrev pub PhaseState : Type 0
PhaseState = PhaseLevel ℕ

abbrev pub PhaseMachine : Type 0
PhaseMachine = PhaseLevel Psw

-- all but the PSW stays
abbrev pub with_psw : {P Q : Type 0} → PhaseLevel P → Q → PhaseLevel Q
with_psw s psw =
    record {
      registers = s.registers;
      psw = psw;
      pc = s.pc;
      ivec = s.ivec;
      ir = s.ir;
      mar = s.mar;
      mbr = s.mbr;
      mpc = s.mpc;
      alatch = s.alatch;
      blatch = s.blatch;
      ireq = s.ireq;
      iack = s.iack;
      mir = s.mir;
      phase = s.phase;
    }

-- the PSW's other bits are dropped
abbrev pub phase_unpacked : PhaseState → PhaseMachine
phase_unpacked s = with_psw s (get_psw s.psw)

abbrev pub phase_packed : PhaseMachine → PhaseState
phase_packed m = with_psw m (mk_psw m.psw)
