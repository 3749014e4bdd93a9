-- The microassembler (section 5.2.4.1, pp. 118-124): its four functions `Oper`, `Set_PSW`, `ExtSig` and `Mpc`, one for each group of fields,
-- their mnemonics, and the packing of a microword. A mnemonic that can stand in several positions has the position in its name here. Assumes nothing.
use Rattle.std.specs.Prelude.{ℕ, ◌+◌, ◌*◌, ◌^◌, Bool, true, false}
use mir.Val.{bool_byte as num}
use Rattle.status.specs.declared.psw.Change.{Change}
use Rattle.control_store.specs.declared.microword.Microword.{Microword}
use Rattle.control_store.specs.Codes.{from_reg_file, from_reg_dest, from_ssp, from_psw, from_c255, from_pc, from_ir}

-- shifter mnemonics (table 5.14, p. 120)
abbrev pub shl : ℕ
shl = 0

abbrev pub shr : ℕ
shr = 1

abbrev pub asr : ℕ
asr = 2

abbrev pub nsh : ℕ
nsh = 3

-- ALU mnemonics (table 5.15, p. 121), but for nop
abbrev pub add : ℕ
add = 0

abbrev pub addc : ℕ
addc = 1

abbrev pub inc : ℕ
inc = 2

abbrev pub sub : ℕ
sub = 3

abbrev pub subc : ℕ
subc = 4

abbrev pub dec : ℕ
dec = 5

abbrev pub band : ℕ
band = 6

abbrev pub bxor : ℕ
bxor = 7

abbrev pub bor : ℕ
bor = 8

abbrev pub bnot : ℕ
bnot = 9

-- the A source (table 5.13, p. 120): `mbr` is AMUX's choice, and SRCA is then that of `noreg`
pub record ASource : Type 0 where
  pub amux : Bool
  pub srca : ℕ

abbrev pub latched : ℕ → ASource
latched code = record { amux = false; srca = code }

abbrev pub a_reg_file : ASource
a_reg_file = latched from_reg_file

abbrev pub a_reg_dest : ASource
a_reg_dest = latched from_reg_dest

abbrev pub a_ssp : ASource
a_ssp = latched from_ssp

abbrev pub a_psw : ASource
a_psw = latched from_psw

abbrev pub a_c255 : ASource
a_c255 = latched from_c255

abbrev pub a_pc : ASource
a_pc = latched from_pc

abbrev pub a_noreg : ASource
a_noreg = latched from_pc

abbrev pub a_mbr : ASource
a_mbr = record { amux = true; srca = from_pc }

-- no B source
abbrev pub b_noreg : ℕ
b_noreg = from_ir

-- `Oper`'s sixth argument: what is done with MAR and MBR
pub record Special : Type 0 where
  pub mar : Bool
  pub mbr : Bool
  pub pmux : Bool

abbrev pub to_mar : Special
to_mar = record { mar = true; mbr = false; pmux = false }

abbrev pub to_mbr : Special
to_mbr = record { mar = false; mbr = true; pmux = false }

abbrev pub mar_gets_pc : Special
mar_gets_pc = record { mar = true; mbr = false; pmux = true }

abbrev pub no_special : Special
no_special = record { mar = false; mbr = false; pmux = false }

-- the operation group: target, shifter, A source, ALU, B source, special
pub record Operation : Type 0 where
  pub trgt : ℕ
  pub shft : ℕ
  pub a : ASource
  pub alu : ℕ
  pub srcb : ℕ
  pub special : Special

abbrev pub oper : ℕ → ℕ → ASource → ℕ → ℕ → Special → Operation
oper trgt shft a alu srcb special = record { trgt = trgt; shft = shft; a = a; alu = alu; srcb = srcb; special = special }

-- the PSW group (table 5.16, p. 121). A carry is loaded from the ALU, from the shifter, or not
pub record Carry : Type 0 where
  pub load : Bool
  pub from_alu : Bool

abbrev pub ld_from_alu : Carry
ld_from_alu = record { load = true; from_alu = true }

abbrev pub ld_from_shifter : Carry
ld_from_shifter = record { load = true; from_alu = false }

abbrev pub pass_carry : Carry
pass_carry = record { load = false; from_alu = false }

-- `set_sm`, `set_ie`; `clr_sm`, `clr_ie`; `pass`
abbrev pub set_it : Change
set_it = record { set = true; clear = false }

abbrev pub clr_it : Change
clr_it = record { set = false; clear = true }

abbrev pub pass : Change
pass = record { set = false; clear = false }

-- `ld_vf`, `ld_nf`, `ld_zf`, and `pass` for a flag
abbrev pub ld : Bool
ld = true

abbrev pub keep : Bool
keep = false

pub record Status : Type 0 where
  pub sm : Change
  pub ie : Change
  pub carry : Carry
  pub v : Bool
  pub n : Bool
  pub z : Bool

abbrev pub set_psw : Change → Change → Carry → Bool → Bool → Bool → Status
set_psw sm ie carry v n z = record { sm = sm; ie = ie; carry = carry; v = v; n = n; z = z }

-- the external signals group (table 5.17, p. 122): acknowledge, fetch, and what memory does
pub record MemoryOperation : Type 0 where
  pub rd : Bool
  pub wr : Bool

abbrev pub rd : MemoryOperation
rd = record { rd = true; wr = false }

abbrev pub wr : MemoryOperation
wr = record { rd = false; wr = true }

abbrev pub no_mem_op : MemoryOperation
no_mem_op = record { rd = false; wr = false }

abbrev pub i_ack : Bool
i_ack = true

abbrev pub off : Bool
off = false

pub record Signals : Type 0 where
  pub iack : Bool
  pub ftch : Bool
  pub memory : MemoryOperation

abbrev pub ext_sig : Bool → Bool → MemoryOperation → Signals
ext_sig iack ftch memory = record { iack = iack; ftch = ftch; memory = memory }

-- the microprogram counter group (table 5.18, p. 123): condition and address
pub record Sequence : Type 0 where
  pub cond : ℕ
  pub addr : ℕ

abbrev pub mpc : ℕ → ℕ → Sequence
mpc cond addr = record { cond = cond; addr = addr }

-- the address where none is used
abbrev pub dummy : ℕ
dummy = 0

-- the four groups as one microword
abbrev pub word : Operation → Status → Signals → Sequence → Microword
word o p e m =
    record {
      amux = o.a.amux;
      shft = o.shft;
      alu = o.alu;
      mar = o.special.mar;
      mbr = o.special.mbr;
      pmux = o.special.pmux;
      srca = o.a.srca;
      srcb = o.srcb;
      trgt = o.trgt;
      ssm = p.sm.set;
      csm = p.sm.clear;
      sie = p.ie.set;
      cie = p.ie.clear;
      ldc = p.carry.load;
      ldv = p.v;
      ldn = p.n;
      ldz = p.z;
      csrc = p.carry.from_alu;
      iack = e.iack;
      ftch = e.ftch;
      rd = e.memory.rd;
      wr = e.memory.wr;
      cond = m.cond;
      addr = m.addr;
    }

-- the packing of table 5.12 (p. 119): the first field highest, the last ending at bit 0 (the scope)
unfoldable pub packed : Microword → ℕ
packed m =
    num m.amux * 2 ^ 39 + m.shft * 2 ^ 37 + m.alu * 2 ^ 33 + num m.mar * 2 ^ 32 + num m.mbr * 2 ^ 31 + num m.pmux * 2 ^ 30
    + m.srca * 2 ^ 27 + m.srcb * 2 ^ 25 + m.trgt * 2 ^ 22 + num m.ssm * 2 ^ 21 + num m.csm * 2 ^ 20 + num m.sie * 2 ^ 19
    + num m.cie * 2 ^ 18 + num m.ldc * 2 ^ 17 + num m.ldv * 2 ^ 16 + num m.ldn * 2 ^ 15 + num m.ldz * 2 ^ 14
    + num m.csrc * 2 ^ 13 + num m.iack * 2 ^ 12 + num m.ftch * 2 ^ 11 + num m.rd * 2 ^ 10 + num m.wr * 2 ^ 9
    + m.cond * 2 ^ 6 + m.addr
