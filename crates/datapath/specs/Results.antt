-- Where the result goes (phases three and four, from p. 110, figures 5.9 and 5.10, pp. 113-114): each part of the state after a microcycle, from its parts before
-- it. The old PSW decides: for the register rule, the jump and the next address. Assumes nothing.
use Rattle.std.specs.Prelude.{ℕ, Bool, true, cond, not, ◌&&◌, ◌||◌, List, eqb, Option, None}
use Rattle.words.specs.Fields.{opcode}
use Rattle.words.specs.Registers.{update_reg, is_sup_reg, ssp_reg}
use Rattle.alu.specs.declared.Flags.{Flags}
use Rattle.alu.specs.declared.AluOutput.{AluOutput}
use Rattle.status.specs.declared.psw.Psw.{Psw}
use Rattle.status.specs.declared.psw.PswLines.{PswLines}
use Rattle.status.specs.Psw.{next_psw}
use Rattle.status.specs.Jump.{jump_cond}
use Rattle.control_store.specs.declared.microword.Microword.{Microword}
use Rattle.control_store.specs.Codes.{to_reg_file, to_ssp, to_psw, to_ir, to_pc, to_pcj}
use Rattle.control_store.specs.Sequencer.{mpc_unit}
use Rattle.blocks.specs.declared.memory.Store.{Store}
use Rattle.datapath.specs.declared.results.SystemRegisters.{SystemRegisters}
use Rattle.blocks.specs.Memory.{fetch, storing}

-- the lines into the PSW; its clock line is high in phase four
abbrev pub psw_lines : Microword → Flags → PswLines
psw_lines m flags =
    record {
      set = eqb m.trgt to_psw;
      clock = true;
      sm = record { set = m.ssm; clear = m.csm };
      ie = record { set = m.sie; clear = m.cie };
      load = record { v = m.ldv; n = m.ldn; c = m.ldc; z = m.ldz };
      flags = flags;
    }

unfoldable pub new_psw : Microword → AluOutput → Psw → Psw
new_psw m out psw = next_psw (psw_lines m out.flags) out.value psw

-- no line into the PSW is high but its clock's
unfoldable pub quiet : Microword → Bool
quiet m = not (eqb m.trgt to_psw || (m.ssm || m.csm || m.sie || m.cie) || (m.ldv || m.ldn || m.ldc || m.ldz))

unfoldable pub new_reg : ℕ → Bool → ℕ → List ℕ → ℕ → List ℕ
new_reg trgt sm dest reg result =
    cond (eqb trgt to_reg_file) (update_reg sm dest reg result) (cond (eqb trgt to_ssp) (update_reg sm ssp_reg reg result) reg)

-- the register that a target names; register 0, which is never written, where it names none
unfoldable pub target_register : ℕ → ℕ → ℕ
target_register trgt dest = cond (eqb trgt to_reg_file) dest (cond (eqb trgt to_ssp) ssp_reg 0)

-- the register that a result is written to, 0 where it is written to none: what new_reg says, for a caller that keeps the registers where
-- they are
unfoldable pub written_register : ℕ → Bool → ℕ → ℕ
written_register trgt sm dest =
    let n = target_register trgt dest in
    cond (is_sup_reg n && not sm) 0 n

unfoldable pub new_mpc : Microword → ℕ → ℕ → Bool → Psw → ℕ
new_mpc m mpc ir ireq psw = mpc_unit mpc (opcode ir) m.addr m.cond ireq psw.ie psw.sm

unfoldable pub new_ir : Microword → ℕ → ℕ → ℕ
new_ir m result ir = cond (eqb m.trgt to_ir) result ir

unfoldable pub new_pc : ℕ → ℕ → Psw → ℕ → ℕ → ℕ
new_pc trgt dest psw result pc = cond (eqb trgt to_pc || (eqb trgt to_pcj && jump_cond dest psw)) result pc

unfoldable pub new_mbr : List ℕ → Microword → ℕ → ℕ → ℕ → ℕ
new_mbr mem m mar result mbr = cond m.rd (fetch mem mar) (cond m.mbr result mbr)

-- phase three's load of MAR, from PC (pp. 110-112): memory is used with it in the same microcycle
abbrev pub mar_from_pc : Microword → ℕ → ℕ → ℕ
mar_from_pc m pc mar = cond (m.pmux && m.mar) pc mar

-- phase four's own load of MAR, from the result
unfoldable pub new_mar : Microword → ℕ → ℕ → ℕ
new_mar m result mar = cond (not m.pmux && m.mar) result mar

-- the four system registers
abbrev pub new_system : List ℕ → Microword → ℕ → Psw → ℕ → SystemRegisters → SystemRegisters
new_system mem m dest psw result old =
    record {
      pc = new_pc m.trgt dest psw result old.pc;
      ir = new_ir m result old.ir;
      mar = new_mar m result old.mar;
      mbr = new_mbr mem m old.mar result old.mbr;
    }

-- what is stored: the old MBR at MAR
unfoldable pub new_store : Microword → ℕ → ℕ → Option Store
new_store m mar mbr = cond m.wr (storing mar mbr) None
