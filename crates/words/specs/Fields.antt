-- The fields of an instruction word (section 5.1.1.3 and figure 5.1, pp. 65-66; the subranging functions of section 5.2.1, pp. 87-91). Assumes nothing.
use Rattle.std.specs.Prelude.{ℕ}
use Rattle.words.specs.declared.instruction.Instruction.{Instruction}
use Rattle.words.specs.Words.{field}

-- bits 31 to 26 hold the opcode, of which the low five choose the instruction (section 5.1.1.4, p. 75)
unfoldable pub opcode : ℕ → ℕ
opcode w = field w 26 5

unfoldable pub dest : ℕ → ℕ
dest w = field w 21 5

unfoldable pub srca : ℕ → ℕ
srca w = field w 16 5

unfoldable pub srcb : ℕ → ℕ
srcb w = field w 11 5

-- a number from 0 to 2 ^ 16 - 1 (pp. 65-66): the bits above it are 0
unfoldable pub imm : ℕ → ℕ
imm w = field w 0 16

-- all five
abbrev pub decoded : ℕ → Instruction
decoded w = record { opcode = opcode w; dest = dest w; srca = srca w; srcb = srcb w; imm = imm w }
