-- What stands on the two buses that feed the ALU, by SRCA and SRCB (phase two, pp. 110-112; table 5.13, p. 120). Assumes nothing.
use Rattle.std.specs.Prelude.{ℕ, cond, List, eqb}
use Rattle.words.specs.Fields.{dest, srca, srcb, imm}
use Rattle.words.specs.Registers.{register, ssp_reg}
use Rattle.control_store.specs.Codes.{from_reg_file, from_reg_dest, from_ssp, from_psw, from_c255, from_reg_file_b, from_ivec}

-- the register of source A, the destination register, SSP, the PSW's word, the constant 255, PC
unfoldable pub a_source : ℕ → ℕ → ℕ → ℕ → ℕ → ℕ → ℕ
a_source code file dest ssp psw pc =
    cond (eqb code from_reg_file) file
    (cond (eqb code from_reg_dest) dest
    (cond (eqb code from_ssp) ssp
    (cond (eqb code from_psw) psw
    (cond (eqb code from_c255) 255
    pc))))

-- the register of source B, the vector, the immediate
unfoldable pub b_source : ℕ → ℕ → ℕ → ℕ → ℕ
b_source code file ivec imm = cond (eqb code from_reg_file_b) file (cond (eqb code from_ivec) ivec imm)

-- the two buses as phase two takes them from the state: the register file, the instruction and the system registers
abbrev pub a_bus : ℕ → List ℕ → ℕ → ℕ → ℕ → ℕ
a_bus code reg ir psw pc = a_source code (register reg (srca ir)) (register reg (dest ir)) (register reg ssp_reg) psw pc

abbrev pub b_bus : ℕ → List ℕ → ℕ → ℕ → ℕ
b_bus code reg ir ivec = b_source code (register reg (srcb ir)) ivec (imm ir)
