-- A next address has six bits, if the address field has; and of the counter only the low six are read.
use Prim.Native.Nat.{ℕ, ◌+◌, ◌%◌, ◌^◌, ◌<◌}
use native.Mathlib.Nat.{mod-lt}
use native.Mathlib.Omega.{arith}
use mathlib.Core.Path.{◌≡◌}
use lib.Pow.{pow_pos}
use mathlib.Core.Bool.{Bool, true, false, cond, ◌&&◌}
use lib.Dec.{eqb}
use Rattle.control_store.specs.Codes.{step, jmp, jop, jint, jsm}
use Rattle.control_store.specs.Sequencer.{add_bt6, mpc_unit}

either : {n : ℕ} (b : Bool) (x y : ℕ) → x < n → y < n → cond b x y < n
either true x y hx hy = hx
either false x y hx hy = hy

pub sum_lt : (a n : ℕ) → add_bt6 a n < 2 ^ 6
unfolding add_bt6
sum_lt a n = mod-lt (a + n) (pow_pos 6)

module _ (mpc opc addr code : ℕ) (ireq ie sm : Bool) (h : addr < 2 ^ 6) where
  next : (b : Bool) → cond b addr (add_bt6 mpc 1) < 2 ^ 6
  next b = either b addr (add_bt6 mpc 1) h (sum_lt mpc 1)

  pub next_lt : mpc_unit mpc opc addr code ireq ie sm < 2 ^ 6
  unfolding mpc_unit
  next_lt = by_code (eqb code step) (eqb code jmp) (eqb code jop) (eqb code jint) (eqb code jsm)
    where
      by_code : (s j o i m : Bool)
          → cond s (add_bt6 mpc 1)
          (cond j addr (cond o (add_bt6 opc 4) (cond i (cond (ireq && ie) addr (add_bt6 mpc 1)) (cond m (cond sm addr (add_bt6 mpc 1)) (add_bt6 mpc 1))))) < 2 ^ 6
      by_code true j o i m = sum_lt mpc 1
      by_code false true o i m = h
      by_code false false true i m = sum_lt opc 4
      by_code false false false true m = next (ireq && ie)
      by_code false false false false true = next sm
      by_code false false false false false = sum_lt mpc 1

sum_low : (a n : ℕ) → add_bt6 (a % 2 ^ 6) n ≡ add_bt6 a n
unfolding add_bt6
sum_low a n = omega arith

pub next_low : (mpc opc addr code : ℕ) (ireq ie sm : Bool) → mpc_unit (mpc % 2 ^ 6) opc addr code ireq ie sm ≡ mpc_unit mpc opc addr code ireq ie sm
unfolding mpc_unit
next_low mpc opc addr code ireq ie sm = rw (sum_low mpc 1)
