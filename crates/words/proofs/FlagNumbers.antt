-- A flag as a number is 0 or 1, and so is its opposite.
use Prim.Native.Nat.{◌+◌, ◌≤◌}
use native.Mathlib.Omega.{arith}
use mathlib.Core.Path.{◌≡◌, refl}
use mathlib.Core.Bool.{Bool, true, false, not}
use mir.Val.{bool_byte as num}

pub num_le : (flag : Bool) → num flag ≤ 1
num_le true = omega arith
num_le false = omega arith

pub num_not : (flag : Bool) → num (not flag) + num flag ≡ 1
num_not true = refl
num_not false = refl
