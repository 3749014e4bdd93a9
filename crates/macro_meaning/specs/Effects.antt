-- What an instruction reads (Operands) and what it does (Effect). It writes at most one register, under the register rule with sm as the
-- effect says; register 0, which is never written, stands for none. It gives PSW and PC, and stores at most one word. All values are read
-- from the state before it. Assumes nothing.
use Rattle.std.specs.Prelude.{ℕ, Bool, false, None}
use Rattle.alu.specs.declared.AluOutput.{AluOutput}
use Rattle.alu.specs.Alu.{sum, difference}
use Rattle.status.specs.declared.psw.Psw.{Psw}
use Rattle.macro_meaning.specs.declared.Operands.{Operands}
use Rattle.macro_meaning.specs.declared.Effect.{Effect}

-- `add`, `inc`, `dec` of words (section 5.2.1, pp. 87-91)
abbrev pub add : ℕ → ℕ → ℕ
add x y = sum x y false

abbrev pub inc : ℕ → ℕ
inc x = sum x 1 false

abbrev pub dec : ℕ → ℕ
dec x = difference x 1 false

-- no register is written and nothing is stored
abbrev pub goes : Operands → Psw → ℕ → Effect
goes o psw pc = record { sm = o.psw.sm; register = 0; value = 0; psw = psw; pc = pc; store = None }

-- R[d] gets the value, and PC goes on
abbrev pub put : Operands → ℕ → Psw → Effect
put o value psw = record { sm = o.psw.sm; register = o.dest; value = value; psw = psw; pc = inc o.pc; store = None }

-- the PSW with other sm and ie
abbrev pub mode : Psw → Bool → Bool → Psw
mode p sm ie = record { sm = sm; ie = ie; v = p.v; n = p.n; c = p.c; z = p.z }

-- PSW(0-3): z, c, n and v from the ALU
abbrev pub zcnv : Psw → AluOutput → Psw
zcnv p out = record { sm = p.sm; ie = p.ie; v = out.flags.v; n = out.flags.n; c = out.flags.c; z = out.flags.z }

-- PSW(0,2): z and n from the ALU
abbrev pub zn : Psw → AluOutput → Psw
zn p out = record { sm = p.sm; ie = p.ie; v = p.v; n = out.flags.n; c = p.c; z = out.flags.z }

-- PSW(1): c, from the shifter
abbrev pub carry : Psw → Bool → Psw
carry p c = record { sm = p.sm; ie = p.ie; v = p.v; n = p.n; c = c; z = p.z }
