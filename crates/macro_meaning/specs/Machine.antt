-- The macro level's state (the tuple of pp. 130-136 with its fifth part, the vector) as a caller lends it, with the PSW as a number, and as
-- a step sees it, with the PSW as its six bits. Memory stands beside it. Assumes nothing.
use Rattle.std.specs.Prelude.{ℕ}
use Rattle.status.specs.declared.psw.Psw.{Psw}
use Rattle.status.specs.Psw.{mk_psw, get_psw}
use Rattle.macro_meaning.specs.declared.MacroLevel.{MacroLevel}

abbrev pub MacroState : Type 0
MacroState = MacroLevel ℕ

abbrev pub MacroMachine : Type 0
MacroMachine = MacroLevel Psw

-- all but the PSW stays
abbrev pub with_psw : {P Q : Type 0} → MacroLevel P → Q → MacroLevel Q
with_psw s psw = record { registers = s.registers; psw = psw; pc = s.pc; ivec = s.ivec }

-- the PSW's other bits are dropped
abbrev pub macro_unpacked : MacroState → MacroMachine
macro_unpacked s = with_psw s (get_psw s.psw)

abbrev pub macro_packed : MacroMachine → MacroState
macro_packed m = with_psw m (mk_psw m.psw)
