-- The sequencer's two conditional jumps, taken and not taken.
use Prim.Native.Nat.{ℕ}
use mathlib.Core.Path.{◌≡◌}
use mathlib.Core.Bool.{Bool, true, false, ◌&&◌}
use Rattle.control_store.specs.Codes.{jint, jsm}
use Rattle.control_store.specs.Sequencer.{add_bt6, mpc_unit}

module _ (mpc opc addr code : ℕ) (ireq ie sm : Bool) where
  pub interrupted : code ≡ jint → (ireq && ie) ≡ true → mpc_unit mpc opc addr code ireq ie sm ≡ addr
  unfolding mpc_unit
  interrupted k t = rw (k, t)

  pub not_interrupted : code ≡ jint → (ireq && ie) ≡ false → mpc_unit mpc opc addr code ireq ie sm ≡ add_bt6 mpc 1
  unfolding mpc_unit
  not_interrupted k t = rw (k, t)

  pub supervised : code ≡ jsm → sm ≡ true → mpc_unit mpc opc addr code ireq ie sm ≡ addr
  unfolding mpc_unit
  supervised k t = rw (k, t)

  pub not_supervised : code ≡ jsm → sm ≡ false → mpc_unit mpc opc addr code ireq ie sm ≡ add_bt6 mpc 1
  unfolding mpc_unit
  not_supervised k t = rw (k, t)
