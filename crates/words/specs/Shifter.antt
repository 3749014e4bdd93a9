-- The shifter's four functions by code (SHIFTER_SPEC, section 5.2.2, pp. 99-102; table 5.14, p. 120), each with the bit shifted out.
-- Assumes nothing.
use Rattle.std.specs.Prelude.{ℕ, ◌+◌, ◌*◌, ◌/◌, ◌^◌, false, cond, eqb}
use mir.Val.{bool_byte as num}
use Rattle.words.specs.declared.shifter.ShifterOutput.{ShifterOutput}
use Rattle.words.specs.Words.{wordn, msb, lsb}

unfoldable pub shl : ℕ → ℕ
shl w = wordn (w * 2)

unfoldable pub shr : ℕ → ℕ
shr w = w / 2

-- the sign bit stays
unfoldable pub asr : ℕ → ℕ
asr w = w / 2 + num (msb w) * 2 ^ 31

unfoldable pub shifter : ℕ → ℕ → ShifterOutput
shifter code w =
    cond (eqb code 0) (record { value = shl w; carry = msb w })
    (cond (eqb code 1) (record { value = shr w; carry = lsb w })
    (cond (eqb code 2) (record { value = asr w; carry = lsb w })
    (record { value = w; carry = false })))
