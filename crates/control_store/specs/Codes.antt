-- The codes that tables 5.13 to 5.18 (pp. 120-123) name, by their mnemonics, and which microwords are legal. The tables give the
-- mnemonics; the numbers are those of the blocks and phases that read them (figure 5.6, p. 99; SHIFTER_SPEC, pp. 99-102; MPC_UNIT, pp.
-- 103-110; phases two and four, pp. 110-114). Assumes nothing.
use Rattle.std.specs.Prelude.{ℕ, ◌^◌, Bool, ◌&&◌, ltb, leb}
use Rattle.control_store.specs.Microword.{fields, used_bits}

-- ALU (table 5.15, p. 121): its eleventh mnemonic is the last code
abbrev pub nop : ℕ
nop = 10

-- TRGT (table 5.13, p. 120)
abbrev pub to_reg_file : ℕ
to_reg_file = 0

abbrev pub to_ssp : ℕ
to_ssp = 1

abbrev pub to_psw : ℕ
to_psw = 2

abbrev pub to_ir : ℕ
to_ir = 3

abbrev pub to_pc : ℕ
to_pc = 4

abbrev pub to_pcj : ℕ
to_pcj = 5

abbrev pub to_noreg : ℕ
to_noreg = 6

-- SRCA (table 5.13); `noreg` is 5 too
abbrev pub from_reg_file : ℕ
from_reg_file = 0

abbrev pub from_reg_dest : ℕ
from_reg_dest = 1

abbrev pub from_ssp : ℕ
from_ssp = 2

abbrev pub from_psw : ℕ
from_psw = 3

abbrev pub from_c255 : ℕ
from_c255 = 4

abbrev pub from_pc : ℕ
from_pc = 5

-- SRCB (table 5.13); `noreg` is 2 too
abbrev pub from_reg_file_b : ℕ
from_reg_file_b = 0

abbrev pub from_ivec : ℕ
from_ivec = 1

abbrev pub from_ir : ℕ
from_ir = 2

-- COND (table 5.18, p. 123)
abbrev pub step : ℕ
step = 0

abbrev pub jmp : ℕ
jmp = 1

abbrev pub jop : ℕ
jop = 2

abbrev pub jint : ℕ
jint = 3

abbrev pub jsm : ℕ
jsm = 4

-- a microword is legal when no bit past the used ones is set and no field has a code past the last that a table names; SHFT and the
-- fields of one bit have a mnemonic for every code, ADDR needs none
unfoldable pub legal_microword : ℕ → Bool
legal_microword w =
    let m = fields w in
    ltb w (2 ^ used_bits) && leb m.alu nop && leb m.srca from_pc && leb m.srcb from_ir && leb m.trgt to_noreg && leb m.cond jsm
