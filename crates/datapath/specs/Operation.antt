-- What the ALU and the shifter give (phase four, figure 5.9, p. 113): the result on the C bus, and the flags that the PSW may load. n and z
-- belong to the ALU's value, before the shifter; c is the ALU's or the shifter's, by CSRC. Assumes nothing.
use Rattle.std.specs.Prelude.{ℕ, Bool, cond}
use Rattle.words.specs.Shifter.{shifter}
use Rattle.alu.specs.declared.AluOutput.{AluOutput}
use Rattle.alu.specs.Alu.{alu}
use Rattle.control_store.specs.declared.microword.Microword.{Microword}

-- the ALU's A input: MBR or the A latch
abbrev pub a_input : Microword → ℕ → ℕ → ℕ
a_input m mbr alatch = cond m.amux mbr alatch

-- the shifter and CSRC, with the ALU's answer given
unfoldable pub shifted : ℕ → Bool → AluOutput → AluOutput
shifted shft csrc out =
    let sh = shifter shft out.value in
    record {
      value = sh.value;
      flags =
          record {
            v = out.flags.v;
            n = out.flags.n;
            c = cond csrc out.flags.c sh.carry;
            z = out.flags.z;
          };
    }

unfoldable pub operated : Microword → ℕ → ℕ → Bool → AluOutput
operated m a b carry = shifted m.shft m.csrc (alu m.alu a b carry)
