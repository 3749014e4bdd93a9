-- The four phases (from p. 110): each takes the whole state and gives the whole state, new values by name, then the record. Memory stands
-- apart: phase four reads it, and what it stores is a value of its own. `urom` is the control store. Assumes nothing.
use Rattle.std.specs.Prelude.{ℕ, Bool, List, Option}
use Rattle.words.specs.Words.{bit}
use Rattle.words.specs.Fields.{dest}
use Rattle.status.specs.Psw.{mk_psw}
use Rattle.control_store.specs.Microword.{fields}
use Rattle.control_store.specs.ControlStore.{word_at}
use Rattle.blocks.specs.declared.memory.Store.{Store}
use Rattle.blocks.specs.Sources.{a_bus, b_bus}
use Rattle.datapath.specs.Operation.{a_input, operated}
use Rattle.datapath.specs.Results.{new_psw, new_reg, new_mpc, new_ir, new_pc, new_mbr, mar_from_pc, new_mar, new_store}
use Rattle.phase_meaning.specs.Machine.{PhaseMachine}

-- the interrupt line, bit 0 of what comes from outside; nothing reads bit 1, reset
unfoldable pub interrupt : ℕ → Bool
interrupt request = bit request 0

-- MIR is loaded from the control store, and the request is latched (pp. 110-112)
unfoldable pub phase_one : List ℕ → PhaseMachine → ℕ → PhaseMachine
phase_one urom s request =
    let new_mir = word_at urom s.mpc in
    let new_ireq = interrupt request in
    record {
      registers = s.registers;
      psw = s.psw;
      pc = s.pc;
      ivec = s.ivec;
      ir = s.ir;
      mar = s.mar;
      mbr = s.mbr;
      mpc = s.mpc;
      alatch = s.alatch;
      blatch = s.blatch;
      ireq = new_ireq;
      iack = s.iack;
      mir = new_mir;
      phase = 1;
    }

-- the two latches that feed the ALU are loaded, and the acknowledge latch (pp. 110-112)
unfoldable pub phase_two : PhaseMachine → PhaseMachine
phase_two s =
    let m = fields s.mir in
    let new_alatch = a_bus m.srca s.registers s.ir (mk_psw s.psw) s.pc in
    let new_blatch = b_bus m.srcb s.registers s.ir s.ivec in
    record {
      registers = s.registers;
      psw = s.psw;
      pc = s.pc;
      ivec = s.ivec;
      ir = s.ir;
      mar = s.mar;
      mbr = s.mbr;
      mpc = s.mpc;
      alatch = new_alatch;
      blatch = new_blatch;
      ireq = s.ireq;
      iack = m.iack;
      mir = s.mir;
      phase = 2;
    }

-- MAR is loaded from PC where MAR and PMUX are both set (pp. 110-112)
unfoldable pub phase_three : PhaseMachine → PhaseMachine
phase_three s =
    let m = fields s.mir in
    let new_mar = mar_from_pc m s.pc s.mar in
    record {
      registers = s.registers;
      psw = s.psw;
      pc = s.pc;
      ivec = s.ivec;
      ir = s.ir;
      mar = new_mar;
      mbr = s.mbr;
      mpc = s.mpc;
      alatch = s.alatch;
      blatch = s.blatch;
      ireq = s.ireq;
      iack = s.iack;
      mir = s.mir;
      phase = 3;
    }

-- phase four's next address, from the latched request and the old PSW
unfoldable pub next_mpc : PhaseMachine → ℕ
next_mpc s = new_mpc (fields s.mir) s.mpc s.ir s.ireq s.psw

-- what phase four stores: the old MBR at MAR, or nothing
unfoldable pub phase_store : PhaseMachine → Option Store
phase_store s = new_store (fields s.mir) s.mar s.mbr

-- the result goes to its target (figures 5.9 and 5.10, pp. 113-114)
unfoldable pub phase_four : List ℕ → PhaseMachine → PhaseMachine
phase_four mem s =
    let m = fields s.mir in
    let out = operated m (a_input m s.mbr s.alatch) s.blatch s.psw.c in
    let result = out.value in
    record {
      registers = new_reg m.trgt s.psw.sm (dest s.ir) s.registers result;
      psw = new_psw m out s.psw;
      pc = new_pc m.trgt (dest s.ir) s.psw result s.pc;
      ivec = s.ivec;
      ir = new_ir m result s.ir;
      mar = new_mar m result s.mar;
      mbr = new_mbr mem m s.mar result s.mbr;
      mpc = next_mpc s;
      alatch = s.alatch;
      blatch = s.blatch;
      ireq = s.ireq;
      iack = s.iack;
      mir = s.mir;
      phase = 0;
    }
