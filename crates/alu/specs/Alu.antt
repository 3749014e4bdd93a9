-- The ALU's eleven functions, each with its value and the flags v, n, c, z: the operations of section 5.2.1 (pp. 87-91), chosen by
-- code as figure 5.6 (p. 99) and ALU_FUNC (pp. 114-117) do. c is that the true sum reaches 2 ^ 32, any carry in counted. Subtraction adds the
-- complement and 1, so its c means that nothing was borrowed. v is that the signed result leaves -2 ^ 31 .. 2 ^ 31 - 1.
-- `num` is the library's number of a truth value, 0 or 1. Assumes nothing.
use Rattle.std.specs.Prelude.{ℕ, ◌+◌, ◌^◌, Bool, false, cond, not, pos, ◌+ℤ◌, ◌-ℤ◌, ◌==◌, bit_and, bit_or, bit_xor, nat_le}
use mir.Val.{bool_byte as num}
use Rattle.alu.specs.declared.AluOutput.{AluOutput}
use Rattle.words.specs.Words.{wordn, negp, zerop, bnot, signed, outside}

-- a + b + carry
unfoldable pub sum : ℕ → ℕ → Bool → ℕ
sum a b carry = wordn (a + b + num carry)

unfoldable pub sum_carry : ℕ → ℕ → Bool → Bool
sum_carry a b carry = nat_le (2 ^ 32) (a + b + num carry)

unfoldable pub sum_overflow : ℕ → ℕ → Bool → Bool
sum_overflow a b carry = outside (signed a +ℤ signed b +ℤ pos (num carry))

-- a - b - borrow: the complement of b, and 1 unless there is a borrow in
unfoldable pub difference : ℕ → ℕ → Bool → ℕ
difference a b borrow = sum a (bnot b) (not borrow)

unfoldable pub difference_carry : ℕ → ℕ → Bool → Bool
difference_carry a b borrow = sum_carry a (bnot b) (not borrow)

unfoldable pub difference_overflow : ℕ → ℕ → Bool → Bool
difference_overflow a b borrow = outside (signed a -ℤ signed b -ℤ pos (num borrow))

-- a value with its flags; n and z are those of the value
abbrev pub output : ℕ → Bool → Bool → AluOutput
output value carry overflow =
    record { value = value; flags = record { v = overflow; n = negp value; c = carry; z = zerop value } }

unfoldable pub added : ℕ → ℕ → Bool → AluOutput
added a b carry = output (sum a b carry) (sum_carry a b carry) (sum_overflow a b carry)

unfoldable pub subtracted : ℕ → ℕ → Bool → AluOutput
subtracted a b borrow = output (difference a b borrow) (difference_carry a b borrow) (difference_overflow a b borrow)

-- a value that no sum made: neither carry nor overflow
unfoldable pub plain : ℕ → AluOutput
plain value = output value false false

-- the functions of figure 5.6 (p. 99), by its names and in its order
abbrev pub add_without_carry : ℕ → ℕ → AluOutput
add_without_carry a b = added a b false

abbrev pub add_with_carry : ℕ → ℕ → Bool → AluOutput
add_with_carry a b carry = added a b carry

abbrev pub increment : ℕ → AluOutput
increment a = added a 1 false

abbrev pub sub_without_carry : ℕ → ℕ → AluOutput
sub_without_carry a b = subtracted a b false

abbrev pub sub_with_carry : ℕ → ℕ → Bool → AluOutput
sub_with_carry a b carry = subtracted a b carry

abbrev pub decrement : ℕ → AluOutput
decrement a = subtracted a 1 false

abbrev pub bitwise_and : ℕ → ℕ → AluOutput
bitwise_and a b = plain (bit_and a b)

abbrev pub bitwise_xor : ℕ → ℕ → AluOutput
bitwise_xor a b = plain (bit_xor a b)

abbrev pub bitwise_or : ℕ → ℕ → AluOutput
bitwise_or a b = plain (bit_or a b)

abbrev pub bitwise_not : ℕ → AluOutput
bitwise_not a = plain (bnot a)

abbrev pub alu_noop : ℕ → AluOutput
alu_noop a = plain a

-- by the ALU field's code: the mnemonics of table 5.15 (p. 121) in its order, and no operation for every code past them
unfoldable pub alu : ℕ → ℕ → ℕ → Bool → AluOutput
alu code a b carry =
    cond (code == 0) (add_without_carry a b)
    (cond (code == 1) (add_with_carry a b carry)
    (cond (code == 2) (increment a)
    (cond (code == 3) (sub_without_carry a b)
    (cond (code == 4) (sub_with_carry a b carry)
    (cond (code == 5) (decrement a)
    (cond (code == 6) (bitwise_and a b)
    (cond (code == 7) (bitwise_xor a b)
    (cond (code == 8) (bitwise_or a b)
    (cond (code == 9) (bitwise_not a)
    (alu_noop a))))))))))
