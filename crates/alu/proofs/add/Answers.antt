-- The value by two wrapping sums, the flags from it: `Sums` has the value and the carry, `OverflowBySigns` the overflow.
use mathlib.Core.Path.{refl}
use mathlib.Core.Bool.{xor}
use Rattle.alu.specs.Alu.{added}
use Rattle.alu.proofs.Sums.{sum_is, sum_carry_is}
use Rattle.alu.proofs.OverflowBySigns.{sum_by_signs}
use Rattle.alu.proofs.Outputs.{output_is}
use Rattle.alu.proofs.add.Goals as goal

pub returns : goal.returns
unfolding added xor
returns c =
    let right = sum_is _ _ _ _ _ refl refl in
    let a_fits = c.ranges.a.fits in
    let b_fits = c.ranges.b.fits in
    output_is _ _ _ _ _ _ _ _ right
    c.negative-n.ensures
    c.zero.ensures
    (sum_carry_is _ _ _ _ _ a_fits b_fits refl refl)
    (rw (c.negative-sign.ensures, c.negative.ensures, c.negative-n.ensures, right) (sum_by_signs _ _ _ a_fits b_fits))
