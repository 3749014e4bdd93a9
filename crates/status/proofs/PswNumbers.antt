-- The PSW's two forms: six bits make a number below 64, which gives the six bits back; a number gives its six low bits.
use Prim.Native.Nat.{ℕ, ◌/◌, ◌%◌, ◌^◌, ◌≤◌, ◌<◌}
use native.Mathlib.Nat.{add_assoc, div-one}
use native.Mathlib.Omega.{arith}
use mathlib.Core.Path.{◌≡◌}
use mathlib.Core.Bool.{Bool, true, false}
use mathlib.Core.Logic.{◌⊎◌, inl, inr}
use lib.Dec.{eqb}
use lib.Pow.{mod-pow-add}
use borrow.Author.Tests.{eq-eqb, ne_eqb}
use mir.Val.{bool_byte as num}
use Rattle.status.specs.declared.psw.Psw.{Psw}
use Rattle.words.specs.Words.{bit}
use Rattle.status.specs.Psw.{mk_psw, get_psw}
use Rattle.words.proofs.Cases.{lt_or_le}
use Rattle.words.proofs.FlagNumbers.{num_le}

-- each bit counts at most 1
pub record BitsLe (p : Psw) : Type 0 where
  pub sm : num p.sm ≤ 1
  pub ie : num p.ie ≤ 1
  pub v : num p.v ≤ 1
  pub n : num p.n ≤ 1
  pub c : num p.c ≤ 1
  pub z : num p.z ≤ 1

pub bits_le : (p : Psw) → BitsLe p
bits_le p =
    record { sm = num_le p.sm; ie = num_le p.ie; v = num_le p.v; n = num_le p.n; c = num_le p.c; z = num_le p.z }

pub six_bits : (p : Psw) → mk_psw p < 64
unfolding mk_psw
six_bits p = omega (arith, bits_le p)

-- a bit as a number is the digit it was read from
pub num_bit : (w place : ℕ) → num (bit w place) ≡ w / 2 ^ place % 2
unfolding bit
num_bit w place = by_digit (lt_or_le (w / 2 ^ place % 2) 1)
  where
    digit : ℕ
    digit = w / 2 ^ place % 2

    by_digit : (digit < 1) ⊎ (1 ≤ digit) → num (eqb digit 1) ≡ digit
    by_digit (inl h) = simp (ne_eqb digit 1 (λ e. omega arith)) (omega arith)
    by_digit (inr h) = simp (eq-eqb digit 1 (omega arith)) (omega arith)

-- a number gives its six low bits
pub dropped : (w : ℕ) → mk_psw (get_psw w) ≡ w % 64
unfolding mk_psw get_psw
dropped w =
    simp num_bit
    (rw (mod-pow-add w 1 5, mod-pow-add w 1 4, mod-pow-add w 1 3, mod-pow-add w 1 2, mod-pow-add w 1 1, div-one) (simp add_assoc))

-- the digit at a place of the PSW's number is the bit there
bit_is : (t : Bool) (digit : ℕ) → digit ≡ num t → eqb digit 1 ≡ t
bit_is true digit e = eq-eqb digit 1 e
bit_is false digit e = ne_eqb digit 1 (λ h. omega arith)

-- six bits come back from their number
pub restored : (p : Psw) → get_psw (mk_psw p) ≡ p
unfolding mk_psw get_psw bit
restored p =
    let small = bits_le p in
    let w = mk_psw p in
    let esm : bit w 5 ≡ p.sm = bit_is p.sm (w / 2 ^ 5 % 2) (omega arith) in
    let eie : bit w 4 ≡ p.ie = bit_is p.ie (w / 2 ^ 4 % 2) (omega arith) in
    let ev : bit w 3 ≡ p.v = bit_is p.v (w / 2 ^ 3 % 2) (omega arith) in
    let en : bit w 2 ≡ p.n = bit_is p.n (w / 2 ^ 2 % 2) (omega arith) in
    let ec : bit w 1 ≡ p.c = bit_is p.c (w / 2 ^ 1 % 2) (omega arith) in
    let ez : bit w 0 ≡ p.z = bit_is p.z (w / 2 ^ 0 % 2) (omega arith) in
    λ i. record { sm = esm i; ie = eie i; v = ev i; n = en i; c = ec i; z = ez i }
