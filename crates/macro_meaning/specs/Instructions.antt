-- The 32 opcodes and the interrupt step: the register transfers of section 5.1.1.3 (pp. 68-75) and the formal JMP, ADD and EINT of
-- section 5.2.6 (pp. 130-136), in the source's order. A part of the state that a comment line does not name is kept. Of the operands,
-- `a`, `b`, `d` and `ssp` are the values R[a], R[b], R[d] and R[ssp], and `dest` is the destination's number. Assumes nothing.
use Rattle.std.specs.Prelude.{ℕ, Bool, true, false, cond, List, eqb, None}
use Rattle.std.specs.Int.Bits.{bit_and}
use Rattle.words.specs.Words.{msb, lsb}
use Rattle.words.specs.Shifter.{shl, shr, asr}
use Rattle.words.specs.Registers.{ssp_reg}
use Rattle.alu.specs.declared.AluOutput.{AluOutput}
use Rattle.alu.specs.Alu.{add_without_carry, add_with_carry, sub_without_carry, sub_with_carry, bitwise_and, bitwise_or, bitwise_xor, bitwise_not}
use Rattle.status.specs.Psw.{mk_psw, get_psw}
use Rattle.status.specs.Jump.{jump_cond}
use Rattle.blocks.specs.Memory.{storing, fetch}
use Rattle.macro_meaning.specs.declared.Operands.{Operands}
use Rattle.macro_meaning.specs.declared.Effect.{Effect}
use Rattle.macro_meaning.specs.Effects.{add, inc, dec, goes, put, mode, zcnv, zn, carry}

-- JMP: pc' = JUMP_COND(dest, psw) ? R[a] + imm : pc + 1
unfoldable pub jmp : Operands → Effect
jmp o = goes o o.psw (cond (jump_cond o.dest o.psw) (add o.a o.imm) (inc o.pc))

-- CALL: pc' = R[a] + imm; R[d]' = R[d] + 1; M[R[d]]' = pc + 1
unfoldable pub call : Operands → Effect
call o =
    record {
      sm = o.psw.sm;
      register = o.dest;
      value = inc o.d;
      psw = o.psw;
      pc = add o.a o.imm;
      store = storing o.d (inc o.pc);
    }

-- RTN: pc' = M[R[d] - 1]; R[d]' = R[d] - 1
unfoldable pub rtn : List ℕ → Operands → Effect
rtn mem o =
    record {
      sm = o.psw.sm;
      register = o.dest;
      value = dec o.d;
      psw = o.psw;
      pc = fetch mem (dec o.d);
      store = None;
    }

-- what INT and the interrupt step share: sm is set and ie cleared, then SSP moves under the new sm; `back` is pushed
unfoldable pub interrupted : Operands → ℕ → ℕ → Effect
interrupted o pc back =
    let new_psw = mode o.psw true false in
    record {
      sm = new_psw.sm;
      register = ssp_reg;
      value = inc o.ssp;
      psw = new_psw;
      pc = pc;
      store = storing o.ssp back;
    }

-- INT: pc' = imm and 255; R[ssp]' = R[ssp] + 1; M[R[ssp]]' = pc + 1; ie' = 0; sm' = 1
abbrev pub int : Operands → Effect
int o = interrupted o (bit_and 255 o.imm) (inc o.pc)

-- EINT, the interrupt step: as INT, with the vector and the PC as it is
abbrev pub eint : Operands → Effect
eint o = interrupted o (bit_and 255 o.ivec) o.pc

-- RTI: pc' = M[R[ssp] - 1]; R[ssp]' = R[ssp] - 1; ie' = 1; sm' = 0. The register rule sees the old sm
unfoldable pub rti : List ℕ → Operands → Effect
rti mem o =
    record {
      sm = o.psw.sm;
      register = ssp_reg;
      value = dec o.ssp;
      psw = mode o.psw false true;
      pc = fetch mem (dec o.ssp);
      store = None;
    }

-- GPSW: R[d]' = psw; pc' = pc + 1
unfoldable pub gpsw : Operands → Effect
gpsw o = put o (mk_psw o.psw) o.psw

-- PPSW: psw' = sm(psw) ? R[d] : psw; pc' = pc + 1
unfoldable pub ppsw : Operands → Effect
ppsw o = goes o (cond o.psw.sm (get_psw o.d) o.psw) (inc o.pc)

-- LD and LDI: R[d]' = M[R[a] + offset], the offset being R[b] or imm; pc' = pc + 1
unfoldable pub ld : List ℕ → Operands → ℕ → Effect
ld mem o offset = put o (fetch mem (add o.a offset)) o.psw

-- ST and STI: M[R[a] + offset]' = R[d]; pc' = pc + 1
unfoldable pub st : Operands → ℕ → Effect
st o offset =
    record { sm = o.psw.sm; register = 0; value = 0; psw = o.psw; pc = inc o.pc; store = storing (add o.a offset) o.d }

-- LSL, LSR, ASR: R[d]' = the shifted word; c' = the bit shifted out; pc' = pc + 1
unfoldable pub shift : Operands → ℕ → Bool → Effect
shift o value out = put o value (carry o.psw out)

-- NOOP: pc' = pc + 1
unfoldable pub noop : Operands → Effect
noop o = goes o o.psw (inc o.pc)

-- ADD, ADDC, SUB, SUBC: R[d]' = the sum or difference; z, c, n, v loaded; pc' = pc + 1
unfoldable pub arithmetic : Operands → AluOutput → Effect
arithmetic o out = put o out.value (zcnv o.psw out)

-- BAND, BOR, BXOR, BNOT: R[d]' = the value bit by bit; z and n loaded; pc' = pc + 1
unfoldable pub logic : Operands → AluOutput → Effect
logic o out = put o out.value (zn o.psw out)

-- opcodes 16 to 30 of table 5.7 (p. 76); 12, 13 and 31 are NOOP
unfoldable pub computation : ℕ → Operands → Effect
computation key o =
    cond (eqb key 16) (arithmetic o (add_without_carry o.a o.b))
    (cond (eqb key 17) (arithmetic o (add_with_carry o.a o.b o.psw.c))
    (cond (eqb key 18) (arithmetic o (sub_without_carry o.a o.b))
    (cond (eqb key 19) (arithmetic o (sub_with_carry o.a o.b o.psw.c))
    (cond (eqb key 20) (logic o (bitwise_and o.a o.b))
    (cond (eqb key 21) (logic o (bitwise_or o.a o.b))
    (cond (eqb key 22) (logic o (bitwise_xor o.a o.b))
    (cond (eqb key 23) (logic o (bitwise_not o.a))
    (cond (eqb key 24) (arithmetic o (add_without_carry o.a o.imm))
    (cond (eqb key 25) (arithmetic o (add_with_carry o.a o.imm o.psw.c))
    (cond (eqb key 26) (arithmetic o (sub_without_carry o.a o.imm))
    (cond (eqb key 27) (arithmetic o (sub_with_carry o.a o.imm o.psw.c))
    (cond (eqb key 28) (logic o (bitwise_and o.a o.imm))
    (cond (eqb key 29) (logic o (bitwise_or o.a o.imm))
    (cond (eqb key 30) (logic o (bitwise_xor o.a o.imm))
    (noop o)))))))))))))))

-- the interrupt step's entry in `macro_inst_list` (pp. 130-137)
abbrev pub eint_key : ℕ
eint_key = 32

-- `macro_inst_list`: by opcode (table 5.7), and entry 32; past it, which nothing chooses, NOOP
unfoldable pub effect : ℕ → List ℕ → Operands → Effect
effect key mem o =
    cond (eqb key 0) (jmp o)
    (cond (eqb key 1) (call o)
    (cond (eqb key 2) (int o)
    (cond (eqb key 3) (rti mem o)
    (cond (eqb key 4) (gpsw o)
    (cond (eqb key 5) (ppsw o)
    (cond (eqb key 6) (ld mem o o.b)
    (cond (eqb key 7) (st o o.b)
    (cond (eqb key 8) (shift o (shl o.a) (msb o.a))
    (cond (eqb key 9) (shift o (shr o.a) (lsb o.a))
    (cond (eqb key 10) (shift o (asr o.a) (lsb o.a))
    (cond (eqb key 11) (rtn mem o)
    (cond (eqb key 14) (ld mem o o.imm)
    (cond (eqb key 15) (st o o.imm)
    (cond (eqb key eint_key) (eint o)
    (computation key o)))))))))))))))
