-- The published microprogram by its fields. Chapter 5 prints FETCH, ISSUE, DECODE, JMP_u1 and ADD_u1 (pp. 124-126) and names NOOP_u1; the other
-- words stand in a report that is not at hand, and are built here from the register transfers (pp. 68-75) and EINT (pp. 130-136), in the
-- places that are known: one word an opcode from 4 to 35, the interrupt routine at 49, 53 words in all and a store of 64 whose last is
-- NOOP_u1. How 36 to 48 and 50 to 52 are shared out is ours. docs/MICROPROGRAM.md has the same as a table. Assumes nothing.
use Rattle.std.specs.Prelude.{ℕ, List, [], ◌∷◌, map}
use Rattle.control_store.specs.declared.microword.Microword.{Microword}
use Rattle.control_store.specs.Codes.{nop, to_reg_file, to_ssp, to_psw, to_ir, to_pc, to_pcj, to_noreg, from_reg_file_b, from_ivec, from_ir, step, jmp, jop, jint}
use Rattle.control_store.specs.Sequencer.{fetch_address}
use Rattle.published.specs.Assembler.{shl, shr, asr, nsh, add, addc, inc, sub, subc, dec, band, bxor, bor, bnot}
use Rattle.published.specs.Assembler.{ASource, a_reg_file, a_reg_dest, a_ssp, a_psw, a_c255, a_pc, a_noreg, a_mbr, b_noreg, to_mar, to_mbr, mar_gets_pc, no_special, oper}
use Rattle.published.specs.Assembler.{Status, set_psw, set_it, clr_it, pass, ld_from_alu, ld_from_shifter, pass_carry, ld, keep}
use Rattle.published.specs.Assembler.{Signals, ext_sig, i_ack, off, rd, wr, no_mem_op, Sequence, mpc, dummy, word, packed}

-- `EINT_u1_ADDR`, as the printed FETCH has it
abbrev pub eint_u1_address : ℕ
eint_u1_address = 49

-- the two usual ends of a word: on to the next, and back to fetch
abbrev on : Sequence
on = mpc step dummy

abbrev back : Sequence
back = mpc jmp fetch_address

-- the usual PSW and signal groups: nothing; all four flags; the carry of a shift; n and z; into supervisor mode; out of it
abbrev pass_all : Status
pass_all = set_psw pass pass pass_carry keep keep keep

abbrev ld_zcnv : Status
ld_zcnv = set_psw pass pass ld_from_alu ld ld ld

abbrev ld_c : Status
ld_c = set_psw pass pass ld_from_shifter keep keep keep

abbrev ld_zn : Status
ld_zn = set_psw pass pass pass_carry keep ld ld

abbrev enter : Status
enter = set_psw set_it clr_it pass_carry keep keep keep

abbrev leave : Status
leave = set_psw clr_it set_it pass_carry keep keep keep

abbrev quiet : Signals
quiet = ext_sig off off no_mem_op

abbrev reads : Signals
reads = ext_sig off off rd

abbrev writes : Signals
writes = ext_sig off off wr

-- ---- printed (pp. 124-126)
abbrev fetch_mc : Microword
fetch_mc = word (oper to_noreg nsh a_noreg nop b_noreg mar_gets_pc) pass_all reads (mpc jint eint_u1_address)

abbrev issue_mc : Microword
issue_mc = word (oper to_ir nsh a_mbr nop b_noreg no_special) pass_all quiet on

abbrev decode_mc : Microword
decode_mc = word (oper to_pc nsh a_pc inc b_noreg no_special) pass_all quiet (mpc jop dummy)

abbrev jmp_u1 : Microword
jmp_u1 = word (oper to_pcj nsh a_reg_file add from_ir no_special) pass_all quiet back

-- ADD_u1 with `add` and `reg_file`; built alike: ADDC, SUB, SUBC, and the four with the immediate
abbrev arithmetic_u1 : ℕ → ℕ → Microword
arithmetic_u1 code b = word (oper to_reg_file nsh a_reg_file code b no_special) ld_zcnv quiet back

-- ---- named, not printed: MPC alone, to fetch
abbrev noop_u1 : Microword
noop_u1 = word (oper to_noreg nsh a_noreg nop b_noreg no_special) pass_all quiet back

-- ---- built here
abbrev logic_u1 : ℕ → ℕ → Microword
logic_u1 code b = word (oper to_reg_file nsh a_reg_file code b no_special) ld_zn quiet back

abbrev shift_u1 : ℕ → Microword
shift_u1 code = word (oper to_reg_file code a_reg_file nop b_noreg no_special) ld_c quiet back

abbrev gpsw_u1 : Microword
gpsw_u1 = word (oper to_reg_file nsh a_psw nop b_noreg no_special) pass_all quiet back

abbrev ppsw_u1 : Microword
ppsw_u1 = word (oper to_psw nsh a_reg_dest nop b_noreg no_special) pass_all quiet back

-- MAR gets an operand; a word of the routine goes on elsewhere
abbrev address_u1 : ASource → ℕ → ℕ → ℕ → Microword
address_u1 a code b next = word (oper to_noreg nsh a code b to_mar) pass_all quiet (mpc jmp next)

-- MAR and the stack pointer get the operand less one
abbrev pop_u1 : ℕ → ASource → ℕ → Microword
pop_u1 target a next = word (oper target nsh a dec b_noreg to_mar) pass_all quiet (mpc jmp next)

-- sm is set and ie cleared before SSP is written, so that it is written in user mode too
abbrev int_u1 : Microword
int_u1 = word (oper to_noreg nsh a_ssp nop b_noreg to_mar) enter quiet (mpc jmp 41)

abbrev eint_u1 : Microword
eint_u1 = word (oper to_noreg nsh a_ssp nop b_noreg to_mar) enter (ext_sig i_ack off no_mem_op) on

-- MBR gets PC, or R[d]: what is to be stored
abbrev push_word : ASource → Microword
push_word a = word (oper to_noreg nsh a nop b_noreg to_mbr) pass_all quiet on

-- memory is read into MBR
abbrev read_word : Microword
read_word = word (oper to_noreg nsh a_noreg nop b_noreg no_special) pass_all reads on

-- PC gets MBR
abbrev return_word : Microword
return_word = word (oper to_pc nsh a_mbr nop b_noreg no_special) pass_all quiet back

abbrev call_u3 : Microword
call_u3 = word (oper to_pc nsh a_reg_file add from_ir no_special) pass_all writes on

abbrev call_u4 : Microword
call_u4 = word (oper to_reg_file nsh a_reg_dest inc b_noreg no_special) pass_all quiet back

-- PC gets the low eight bits of the immediate, or of the vector
abbrev int_u3 : Microword
int_u3 = word (oper to_pc nsh a_c255 band from_ir no_special) pass_all writes (mpc jmp 52)

abbrev eint_u3 : Microword
eint_u3 = word (oper to_pc nsh a_c255 band from_ivec no_special) pass_all writes on

abbrev eint_u4 : Microword
eint_u4 = word (oper to_ssp nsh a_ssp inc b_noreg no_special) pass_all quiet back

-- sm is cleared only here: RTI_u1 writes SSP under the old one
abbrev rti_u3 : Microword
rti_u3 = word (oper to_pc nsh a_mbr nop b_noreg no_special) leave quiet back

abbrev ld_u3 : Microword
ld_u3 = word (oper to_reg_file nsh a_mbr nop b_noreg no_special) pass_all quiet back

abbrev st_u3 : Microword
st_u3 = word (oper to_noreg nsh a_noreg nop b_noreg no_special) pass_all writes back

-- `micro_rom` (pp. 124-126), four words a line; words 53 to 63 fill the store
unfoldable pub listing : List Microword
listing =
    fetch_mc ∷ issue_mc ∷ decode_mc ∷ noop_u1
    ∷ jmp_u1 ∷ address_u1 a_reg_dest nop b_noreg 36 ∷ int_u1 ∷ pop_u1 to_ssp a_ssp 43
    ∷ gpsw_u1 ∷ ppsw_u1 ∷ address_u1 a_reg_file add from_reg_file_b 45 ∷ address_u1 a_reg_file add from_reg_file_b 47
    ∷ shift_u1 shl ∷ shift_u1 shr ∷ shift_u1 asr ∷ pop_u1 to_reg_file a_reg_dest 39
    ∷ noop_u1 ∷ noop_u1 ∷ address_u1 a_reg_file add from_ir 45 ∷ address_u1 a_reg_file add from_ir 47
    ∷ arithmetic_u1 add from_reg_file_b ∷ arithmetic_u1 addc from_reg_file_b ∷ arithmetic_u1 sub from_reg_file_b ∷ arithmetic_u1 subc from_reg_file_b
    ∷ logic_u1 band from_reg_file_b ∷ logic_u1 bor from_reg_file_b ∷ logic_u1 bxor from_reg_file_b ∷ logic_u1 bnot b_noreg
    ∷ arithmetic_u1 add from_ir ∷ arithmetic_u1 addc from_ir ∷ arithmetic_u1 sub from_ir ∷ arithmetic_u1 subc from_ir
    ∷ logic_u1 band from_ir ∷ logic_u1 bor from_ir ∷ logic_u1 bxor from_ir ∷ noop_u1
    ∷ push_word a_pc ∷ call_u3 ∷ call_u4 ∷ read_word
    ∷ return_word ∷ push_word a_pc ∷ int_u3 ∷ read_word
    ∷ rti_u3 ∷ read_word ∷ ld_u3 ∷ push_word a_reg_dest
    ∷ st_u3 ∷ eint_u1 ∷ push_word a_pc ∷ eint_u3
    ∷ eint_u4 ∷ noop_u1 ∷ noop_u1 ∷ noop_u1
    ∷ noop_u1 ∷ noop_u1 ∷ noop_u1 ∷ noop_u1
    ∷ noop_u1 ∷ noop_u1 ∷ noop_u1 ∷ noop_u1 ∷ []

-- the control store that ships: the listing, packed
unfoldable pub published : List ℕ
published = map packed listing
