-- Every legal length is a number of fours, at most 4,096 of them.
use Prim.Native.Nat.{ℕ, zero, suc, ◌*◌, ◌%◌, ◌^◌, ◌≤◌}
use native.Mathlib.Nat.{pow-suc}
use native.Mathlib.Omega.{arith}
use mathlib.Core.Path.{◌≡◌}
use mathlib.Core.Bool.{true}
use lib.Pow.{pow_mono}
use Rattle.words.specs.Lengths.{legal_length}
use Rattle.words.proofs.PowersOfTwo.{eleven_lengths}

pub in_fours : (m : ℕ) → legal_length m ≡ true → (q : ℕ) × (m ≡ 4 * q) × (q ≤ 4096)
in_fours m h = of_power ((eleven_lengths m).0 h)
  where
    of_power : (k : ℕ) × ((4 ≤ k) × (k ≤ 14)) × (m ≡ 2 ^ k) → (q : ℕ) × (m ≡ 4 * q) × (q ≤ 4096)
    of_power (zero, b, e) = absurd (omega (arith, b.0))
    of_power (suc zero, b, e) = absurd (omega (arith, b.0))
    of_power (suc (suc k), b, e) = (2 ^ k, omega (arith, e, pow-suc 2 k, pow-suc 2 (suc k)), pow_mono {j = 12} (omega (arith, b.1)))

pub whole_fours : (m : ℕ) → legal_length m ≡ true → m % 4 ≡ 0
whole_fours m h = let q = in_fours m h in omega (arith, q.1)

pub at_most_16384 : (m : ℕ) → legal_length m ≡ true → m ≤ 16384
at_most_16384 m h = let q = in_fours m h in omega (arith, q.1, q.2)
