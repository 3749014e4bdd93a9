-- The three cases of the PSW rule, as laws: a whole word, the single bits, nothing.
use Prim.Native.Nat.{ℕ}
use mathlib.Core.Path.{◌≡◌}
use mathlib.Core.Bool.{true, false, ◌&&◌}
use Rattle.status.specs.declared.psw.Psw.{Psw}
use Rattle.status.specs.declared.psw.PswLines.{PswLines}
use Rattle.status.specs.Psw.{get_psw, clocked, next_psw}

pub whole_word : (lines : PswLines) (word : ℕ) (p : Psw) → (lines.set && p.sm) ≡ true → next_psw lines word p ≡ get_psw word
unfolding next_psw
whole_word lines word p e = simp e

pub single_bits : (lines : PswLines) (word : ℕ) (p : Psw) → (lines.set && p.sm) ≡ false → lines.clock ≡ true → next_psw lines word p ≡ clocked lines p
unfolding next_psw
single_bits lines word p e f = simp (e, f)

pub kept : (lines : PswLines) (word : ℕ) (p : Psw) → (lines.set && p.sm) ≡ false → lines.clock ≡ false → next_psw lines word p ≡ p
unfolding next_psw
kept lines word p e f = simp (e, f)
