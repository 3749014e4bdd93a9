-- The value by two wrapping differences, the flags from it: `Sums` has the value and the carry, `OverflowBySigns` the overflow.
use mathlib.Core.Path.{refl}
use mathlib.Core.Bool.{xor}
use Rattle.alu.specs.Alu.{subtracted}
use Rattle.alu.proofs.Sums.{difference_is, difference_carry_is}
use Rattle.alu.proofs.OverflowBySigns.{difference_by_signs}
use Rattle.alu.proofs.Outputs.{output_is}
use Rattle.alu.proofs.subtract.Goals as goal

pub returns : goal.returns
unfolding subtracted xor
returns c =
    let a_fits = c.ranges.a.fits in
    let b_fits = c.ranges.b.fits in
    let right = difference_is _ _ _ _ c.args.borrow a_fits b_fits refl refl in
    output_is _ _ _ _ _ _ _ _ right
    c.negative-n.ensures
    c.zero.ensures
    (difference_carry_is _ _ _ a_fits b_fits)
    (rw (c.negative-sign.ensures, c.negative.ensures, c.negative-n.ensures, right) (difference_by_signs _ _ _ a_fits b_fits))
