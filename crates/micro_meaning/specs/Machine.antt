-- The micro level's state: the phase level's without latches (the tuples of pp. 126-130). A caller lends it with the PSW as a number; a
-- microcycle sees the PSW as its six bits. Assumes nothing.
use Rattle.status.specs.Psw.{mk_psw, get_psw}
use Rattle.phase_meaning.specs.Machine.{PhaseMachine}
use Rattle.micro_meaning.specs.declared.MicroMachine.{MicroMachine}
use Rattle.micro_meaning.specs.declared.MicroState.{MicroState}

-- what the micro level sees of a phase state
abbrev pub micro_seen : PhaseMachine → MicroMachine
micro_seen s =
    record {
      registers = s.registers;
      psw = s.psw;
      pc = s.pc;
      ir = s.ir;
      mar = s.mar;
      mbr = s.mbr;
      mpc = s.mpc;
      ivec = s.ivec;
    }

-- the PSW's other bits are dropped
abbrev pub micro_unpacked : MicroState → MicroMachine
micro_unpacked s =
    record {
      registers = s.registers;
      psw = get_psw s.psw;
      pc = s.pc;
      ir = s.ir;
      mar = s.mar;
      mbr = s.mbr;
      mpc = s.mpc;
      ivec = s.ivec;
    }

abbrev pub micro_packed : MicroMachine → MicroState
micro_packed m =
    record {
      registers = m.registers;
      psw = mk_psw m.psw;
      pc = m.pc;
      ir = m.ir;
      mar = m.mar;
      mbr = m.mbr;
      mpc = m.mpc;
      ivec = m.ivec;
    }
