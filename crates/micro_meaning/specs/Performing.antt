-- A microcycle as the code does it, without the registers: the four that it may read come in as words, and the one that it may write goes out
-- as a number and a value. It is the microcycle of specs/Microcycle.antt part by part; proofs/SameMicrocycle.antt says so. Assumes nothing.
use Rattle.std.specs.Prelude.{ℕ, cond, List, eqb, leb, set}
use Rattle.words.specs.Fields.{srca, srcb, dest, imm}
use Rattle.words.specs.Registers.{register, ssp_reg}
use Rattle.status.specs.Psw.{mk_psw}
use Rattle.control_store.specs.Microword.{fields}
use Rattle.blocks.specs.Sources.{a_source, b_source}
use Rattle.datapath.specs.Operation.{a_input, operated}
use Rattle.datapath.specs.Results.{new_psw, written_register, new_mpc, new_ir, new_pc, new_mbr, mar_from_pc, new_mar, new_store}
use Rattle.phase_meaning.specs.Phases.{interrupt}
use Rattle.micro_meaning.specs.declared.MicroMachine.{MicroMachine}
use Rattle.micro_meaning.specs.declared.Core.{Core}
use Rattle.micro_meaning.specs.declared.Read.{Read}
use Rattle.micro_meaning.specs.declared.Performed.{Performed}

-- the state beside the registers, and both put together
abbrev pub core_of : MicroMachine → Core
core_of s = record { psw = s.psw; pc = s.pc; ir = s.ir; mar = s.mar; mbr = s.mbr; mpc = s.mpc; ivec = s.ivec }

abbrev pub machine : List ℕ → Core → MicroMachine
machine registers core =
    record {
      registers = registers;
      psw = core.psw;
      pc = core.pc;
      ir = core.ir;
      mar = core.mar;
      mbr = core.mbr;
      mpc = core.mpc;
      ivec = core.ivec;
    }

-- the registers that a microcycle may read
abbrev pub read_of : List ℕ → ℕ → Read
read_of registers ir =
    record {
      srca = register registers (srca ir);
      srcb = register registers (srcb ir);
      dest = register registers (dest ir);
      ssp = register registers ssp_reg;
    }

unfoldable pub next_of : ℕ → Core → ℕ → ℕ
next_of word core request = new_mpc (fields word) core.mpc core.ir (interrupt request) core.psw

unfoldable pub performed : List ℕ → ℕ → Core → Read → ℕ → Performed
performed mem word core read next =
    let m = fields word in
    let a = a_source m.srca read.srca read.dest read.ssp (mk_psw core.psw) core.pc in
    let b = b_source m.srcb read.srcb core.ivec (imm core.ir) in
    let mar = mar_from_pc m core.pc core.mar in
    let out = operated m (a_input m core.mbr a) b core.psw.c in
    let result = out.value in
    record {
      core =
          record {
            psw = new_psw m out core.psw;
            pc = new_pc m.trgt (dest core.ir) core.psw result core.pc;
            ir = new_ir m result core.ir;
            mar = new_mar m result mar;
            mbr = new_mbr mem m mar result core.mbr;
            mpc = next;
            ivec = core.ivec;
          };
      register = written_register m.trgt core.psw.sm (dest core.ir);
      value = result;
      store = new_store m mar core.mbr;
    }

-- the registers after it: one of them is written at most, and none by a number that names none
abbrev pub put : List ℕ → ℕ → ℕ → List ℕ
put registers number value = cond (eqb number 0) registers (cond (leb 32 number) registers (set registers number value))
