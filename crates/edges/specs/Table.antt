-- The scope's examples at the edges that are marked as proved, a row each: what the definitions show, and what the scope says.
-- Everything is shown in numbers, a flag or a decision as 0 or 1.
use Rattle.std.specs.Prelude.{ℕ, ◌%◌, Bool, true, false, List, [], ◌∷◌, set}
use mir.Val.{bool_byte as num}
use Rattle.alu.specs.declared.AluOutput.{AluOutput}
use Rattle.alu.specs.Alu.{add_without_carry, sub_without_carry}
use Rattle.status.specs.declared.psw.Psw.{Psw}
use Rattle.status.specs.declared.psw.PswLines.{PswLines}
use Rattle.status.specs.Psw.{mk_psw, next_psw}
use Rattle.status.specs.Jump.{jump_cond}
use Rattle.words.specs.Registers.{update_reg}
use Rattle.image_meaning.specs.Ascii.{ascii}
use Rattle.image_meaning.specs.Digits.{sum_of}
use Rattle.image_meaning.specs.Records.{is_record, record_bytes}

pub record Row : Type 0 where
  pub shown : List ℕ
  pub said : List ℕ

-- a PSW in user mode with interrupts off, by its flags v, n, c, z
abbrev pub user : Bool → Bool → Bool → Bool → Psw
user v n c z = record { sm = false; ie = false; v = v; n = n; c = c; z = z }

-- whether a jump with a destination field is taken
abbrev pub jump : ℕ → Psw → Bool → Row
jump field psw taken = record { shown = num (jump_cond field psw) ∷ []; said = num taken ∷ [] }

-- 32 registers: register 0 holds 0, each other 100 more than its number
abbrev pub registers : List ℕ
registers = 0 ∷ 101 ∷ 102 ∷ 103 ∷ 104 ∷ 105 ∷ 106 ∷ 107 ∷ 108 ∷ 109 ∷ 110 ∷ 111 ∷ 112 ∷ 113 ∷ 114 ∷ 115 ∷ 116 ∷ 117 ∷ 118 ∷ 119 ∷ 120 ∷ 121 ∷ 122 ∷ 123 ∷ 124 ∷ 125 ∷ 126 ∷ 127 ∷ 128 ∷ 129 ∷ 130 ∷ 131 ∷ []

-- writing 5 to a register, with sm or without, and all registers after it
abbrev pub write : Bool → ℕ → List ℕ → Row
write sm n after = record { shown = update_reg sm n registers 5; said = after }

-- the set line high and the clock line low, while every other line asks for a change
abbrev pub clock_low : PswLines
clock_low =
    record {
      set = true;
      clock = false;
      sm = record { set = true; clear = false };
      ie = record { set = true; clear = false };
      load = record { v = true; n = true; c = true; z = true };
      flags = record { v = false; n = false; c = false; z = false };
    }

-- a whole word at the PSW of a user whose flags are all set, and the PSW's number after it
abbrev pub word_in_user_mode : ℕ → ℕ → Row
word_in_user_mode word after =
    record { shown = mk_psw (next_psw clock_low word (user true true true true)) ∷ []; said = after ∷ [] }

-- an ALU output: the value, then the flags
abbrev pub alu : AluOutput → ℕ → Bool → Bool → Bool → Bool → Row
alu output value v n c z =
    record {
      shown = output.value ∷ num output.flags.v ∷ num output.flags.n ∷ num output.flags.c ∷ num output.flags.z ∷ [];
      said = value ∷ num v ∷ num n ∷ num c ∷ num z ∷ [];
    }

-- a line that is a record, and its sum modulo 256
abbrev pub record_sum : List ℕ → ℕ → Row
record_sum line sum = record { shown = num (is_record line) ∷ sum_of (record_bytes line) % 256 ∷ []; said = num true ∷ sum ∷ [] }

abbrev pub rows : List Row
rows =
    -- code 0 with c jumps
    jump 0 (user false false true false) true
    -- code 1 with c doesn't
    ∷ jump 1 (user false false true false) false
    -- code 8 with c and not z doesn't
    ∷ jump 8 (user false false true false) false
    -- code 8 with c and z does
    ∷ jump 8 (user false false true true) true
    -- code 10 with n and v doesn't
    ∷ jump 10 (user true true false false) false
    -- code 12 with n, v, z clear does
    ∷ jump 12 (user false false false false) true
    -- field 15 with all flags clear does
    ∷ jump 15 (user false false false false) true
    -- field 16 with all flags clear does
    ∷ jump 16 (user false false false false) true
    -- writing 5 in user mode leaves register 7
    ∷ write false 7 registers
    -- writing 5 in user mode changes register 8
    ∷ write false 8 (set registers 8 5)
    -- in supervisor mode register 0 stays 0
    ∷ write true 0 registers
    -- a whole-word PSW write in user mode with the clock line low changes nothing
    ∷ word_in_user_mode 0b110000 0b001111
    -- FFFFFFFF + 1 = 0, c z set, n v clear
    ∷ alu (add_without_carry 0xffff_ffff 1) 0 false false true true
    -- 7FFFFFFF + 1 = 80000000, n v set, c z clear
    ∷ alu (add_without_carry 0x7fff_ffff 1) 0x8000_0000 true true false false
    -- 0 - 1 = FFFFFFFF, n set, c v z clear
    ∷ alu (sub_without_carry 0 1) 0xffff_ffff false true false false
    -- record :0400000000000010EC sums to 0 modulo 256
    ∷ record_sum (ascii ":0400000000000010EC") 0
    ∷ []
