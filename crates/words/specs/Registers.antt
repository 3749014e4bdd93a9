-- The register rule: UPDATE_REG (section 5.2.2, pp. 91-99) over a list of registers. Assumes nothing.
use Rattle.std.specs.Prelude.{ℕ, Bool, cond, not, ◌&&◌, List, eqb, leb, get_or, set}

-- `IS_SUP_REG`: the seven registers that only the supervisor writes (pp. 63-65)
unfoldable pub is_sup_reg : ℕ → Bool
is_sup_reg n = leb 1 n && leb n 7

-- register 0 is never written, 1 to 7 only with sm; otherwise the value is stored
unfoldable pub update_reg : Bool → ℕ → List ℕ → ℕ → List ℕ
update_reg sm n reg value = cond (eqb n 0) reg (cond (is_sup_reg n && not sm) reg (set reg n value))

-- `EL n reg`: what register n holds
abbrev pub register : List ℕ → ℕ → ℕ
register reg n = get_or reg n 0

-- `ssp_reg`, the supervisor stack pointer: one of the seven, which the source leaves open
abbrev pub ssp_reg : ℕ
ssp_reg = 1
