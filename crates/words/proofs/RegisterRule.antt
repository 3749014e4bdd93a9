-- The register rule's three cases, and what it keeps: the number of registers, register 0, and in user mode the seven that are the
-- supervisor's.
use Prim.Native.Nat.{ℕ, ◌≤◌, ◌<◌}
use native.Mathlib.Omega.{arith}
use mathlib.Core.Path.{◌≡◌, refl, sym}
use mathlib.Core.Bool.{Bool, true, false, not, cond, ◌&&◌}
use mathlib.Core.Logic.{◌⊎◌, inl, inr}
use mathlib.Core.List.{List}
use lib.Dec.{eqb}
use lib.ListN.{length, get_or, set, length-set}
use lib.Seq.{get_or-set_other}
use borrow.Author.Tests.{eqb-false, eq-eqb, ne_eqb, le-leb}
use Rattle.words.specs.Registers.{update_reg, is_sup_reg}
use Rattle.words.proofs.Cases.{lt_or_le}

-- ---- its three cases

module _ (sm : Bool) (n : ℕ) (reg : List ℕ) (value : ℕ) where
  pub zero_register : n ≡ 0 → update_reg sm n reg value ≡ reg
  unfolding update_reg
  zero_register e = simp (eq-eqb n 0 e)

  pub guarded : (n ≡ 0 → ⊥) → (is_sup_reg n && not sm) ≡ true → update_reg sm n reg value ≡ reg
  unfolding update_reg
  guarded h e = simp (ne_eqb n 0 h, e)

  pub stored : (n ≡ 0 → ⊥) → (is_sup_reg n && not sm) ≡ false → update_reg sm n reg value ≡ set reg n value
  unfolding update_reg
  stored h e = simp (ne_eqb n 0 h, e)

-- ---- what it keeps

-- a write stores the value or nothing
pub stored_or_not : (P : List ℕ → Type 0) (sm : Bool) (n : ℕ) (reg : List ℕ) (value : ℕ) → P reg → ((n ≡ 0 → ⊥) → P (set reg n value)) → P (update_reg sm n reg value)
unfolding update_reg
stored_or_not P sm n reg value kept stored = at_zero (eqb n 0) refl
  where
    guarded : (t : Bool) → (n ≡ 0 → ⊥) → P (cond t reg (set reg n value))
    guarded true h = kept
    guarded false h = stored h

    at_zero : (t : Bool) → eqb n 0 ≡ t → P (cond t reg (cond (is_sup_reg n && not sm) reg (set reg n value)))
    at_zero true e = kept
    at_zero false e = guarded (is_sup_reg n && not sm) (eqb-false n 0 e)

pub length_kept : (sm : Bool) (n : ℕ) (reg : List ℕ) (value : ℕ) → length (update_reg sm n reg value) ≡ length reg
length_kept sm n reg value = stored_or_not (λ (l : List ℕ). length l ≡ length reg) sm n reg value refl (λ h. length-set reg n value)

pub zero_kept : (sm : Bool) (n : ℕ) (reg : List ℕ) (value : ℕ) → get_or (update_reg sm n reg value) 0 0 ≡ get_or reg 0 0
zero_kept sm n reg value =
    stored_or_not (λ (l : List ℕ). get_or l 0 0 ≡ get_or reg 0 0) sm n reg value refl (λ h. get_or-set_other reg n 0 value 0 (λ e. h (sym e)))

pub supervisor_kept : (n : ℕ) (reg : List ℕ) (value : ℕ) → 1 ≤ n → n ≤ 7 → update_reg false n reg value ≡ reg
unfolding update_reg is_sup_reg
supervisor_kept n reg value h k = simp (ne_eqb n 0 (λ e. omega arith), le-leb 1 n h, le-leb n 7 k)

-- in user mode each of the seven holds what it held, whichever register is written
pub seven_kept : (n : ℕ) (reg : List ℕ) (value m : ℕ) → 1 ≤ m → m ≤ 7 → get_or (update_reg false n reg value) m 0 ≡ get_or reg m 0
seven_kept n reg value m h k = by_number (lt_or_le n 1) (lt_or_le 7 n)
  where
    by_number : (n < 1) ⊎ (1 ≤ n) → (7 < n) ⊎ (n ≤ 7) → get_or (update_reg false n reg value) m 0 ≡ get_or reg m 0
    by_number (inl x) y = rw (zero_register false n reg value (omega arith))
    by_number (inr x) (inl y) = stored_or_not (λ (l : List ℕ). get_or l m 0 ≡ get_or reg m 0) false n reg value refl (λ z. get_or-set_other reg n m value 0 (λ e. omega arith))
    by_number (inr x) (inr y) = rw (supervisor_kept n reg value x y)
