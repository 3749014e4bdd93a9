-- A field is below what its width holds; so the three register fields of an instruction name one of 32 registers.
use Prim.Native.Nat.{ℕ, ◌^◌, ◌/◌, ◌<◌}
use native.Mathlib.Nat.{mod-lt}
use lib.Pow.{pow_pos}
use Rattle.words.specs.Words.{field}
use Rattle.words.specs.Fields.{dest, srca, srcb}

pub field_lt : (w low size : ℕ) → field w low size < 2 ^ size
unfolding field
field_lt w low size = mod-lt (w / 2 ^ low) (pow_pos size)

pub dest_lt : (w : ℕ) → dest w < 32
unfolding dest
dest_lt w = field_lt w 21 5

pub srca_lt : (w : ℕ) → srca w < 32
unfolding srca
srca_lt w = field_lt w 16 5

pub srcb_lt : (w : ℕ) → srcb w < 32
unfolding srcb
srcb_lt w = field_lt w 11 5
