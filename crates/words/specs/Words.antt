-- Words of 32 bits, as numbers below 2 ^ 32, and the operations of section 5.2.1 (pp. 87-91) that every other file stands on, by the
-- source's names. The source leaves them abstract; the scope gives their meaning on 32 bits. Bits are counted from 0, the lowest.
-- Assumes nothing.
use Rattle.std.specs.Prelude.{ℕ, ◌-◌, ◌/◌, ◌%◌, ◌^◌, Bool, cond, ◌||◌, eqb, ℤ, pos, neg_ℤ, ◌-ℤ◌}
use Rattle.std.specs.Int.Signed.{lt_z}

-- `wordn`: the word that a number stands for, its low 32 bits
unfoldable pub wordn : ℕ → ℕ
wordn n = n % 2 ^ 32

-- the field of a word that starts at bit `low` and is `size` bits wide
unfoldable pub field : ℕ → ℕ → ℕ → ℕ
field w low size = w / 2 ^ low % 2 ^ size

-- the bit at a place
unfoldable pub bit : ℕ → ℕ → Bool
bit w place = eqb (w / 2 ^ place % 2) 1

-- `msb` and `lsb`: the most and the least significant bit
unfoldable pub msb : ℕ → Bool
msb w = bit w 31

unfoldable pub lsb : ℕ → Bool
lsb w = bit w 0

-- `negp` and `zerop`, the two test functions: n is bit 31, z means all zero
unfoldable pub negp : ℕ → Bool
negp w = msb w

unfoldable pub zerop : ℕ → Bool
zerop w = eqb w 0

-- `bnot`: the complement, every bit turned
unfoldable pub bnot : ℕ → ℕ
bnot w = 2 ^ 32 - 1 - w

-- a word read as a signed number: bit 31 counts as -2 ^ 31
unfoldable pub signed : ℕ → ℤ
signed w = cond (negp w) (pos w -ℤ pos (2 ^ 32)) (pos w)

-- an integer is outside -2 ^ 31 .. 2 ^ 31 - 1, what a signed word can be
unfoldable pub outside : ℤ → Bool
outside x = lt_z x (neg_ℤ (pos (2 ^ 31))) || lt_z (pos (2 ^ 31 - 1)) x
