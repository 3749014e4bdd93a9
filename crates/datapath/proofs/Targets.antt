-- The register file by the one rule, for the register that a target names; PC with and without a jump; the PSW where nothing asks for a
-- change; MBR with and without a read; the store with and without a write.
use Prim.Native.Nat.{ℕ, ◌<◌}
use native.Mathlib.Omega.{arith}
use mathlib.Core.Path.{◌≡◌, refl, sym, ◌∙◌}
use mathlib.Core.Bool.{Bool, true, false, false≢true, not, cond, ◌&&◌, ◌||◌}
use mathlib.Core.List.{List}
use lib.Dec.{eqb, leb}
use lib.ListN.{set}
use borrow.Author.Tests.{ne_eqb}
use Rattle.words.specs.Registers.{update_reg, is_sup_reg, ssp_reg}
use Rattle.words.proofs.RegisterRule.{zero_register}
use Rattle.control_store.specs.declared.microword.Microword.{Microword}
use Rattle.alu.specs.declared.AluOutput.{AluOutput}
use Rattle.status.specs.declared.psw.Psw.{Psw}
use Rattle.status.specs.Psw.{clocked, next_psw}
use Rattle.status.specs.Jump.{jump_cond}
use Rattle.control_store.specs.Codes.{to_reg_file, to_ssp, to_psw, to_pc, to_pcj}
use Rattle.std.specs.Prelude.{None}
use Rattle.blocks.specs.Memory.{storing}
use Rattle.blocks.specs.Memory.{fetch}
use Rattle.datapath.specs.Results.{quiet, target_register, written_register, new_psw, new_reg, new_pc, new_mbr, new_store}

-- a target that is no register is register 0, and register 0 is never written
pub by_the_rule : (trgt : ℕ) (sm : Bool) (dest : ℕ) (reg : List ℕ) (result : ℕ)
    → update_reg sm (target_register trgt dest) reg result ≡ new_reg trgt sm dest reg result
unfolding target_register new_reg
by_the_rule trgt sm dest reg result = go (eqb trgt to_reg_file) (eqb trgt to_ssp)
  where
    go : (file ssp : Bool)
        → update_reg sm (cond file dest (cond ssp ssp_reg 0)) reg result
        ≡ cond file (update_reg sm dest reg result) (cond ssp (update_reg sm ssp_reg reg result) reg)
    go true ssp = refl
    go false true = refl
    go false false = zero_register sm 0 reg result refl

module _ (trgt : ℕ) (sm : Bool) (dest : ℕ) {n : ℕ} (e : n ≡ target_register trgt dest) where
  pub none_written : (leb 1 n && leb n 7 && not sm) ≡ true → 0 ≡ written_register trgt sm dest
  unfolding written_register is_sup_reg
  none_written g = rw (← e, g)

  pub that_written : (leb 1 n && leb n 7 && not sm) ≡ false → n ≡ written_register trgt sm dest
  unfolding written_register is_sup_reg
  that_written g = rw (← e, g)

-- a register that is written is one of 32
pub written_lt : (trgt : ℕ) (sm : Bool) {dest : ℕ} → dest < 32 → written_register trgt sm dest < 32
unfolding written_register target_register
written_lt trgt sm {dest} h = guarded (is_sup_reg n && not sm) (named (eqb trgt to_reg_file) (eqb trgt to_ssp))
  where
    n : ℕ
    n = target_register trgt dest

    named : (file ssp : Bool) → cond file dest (cond ssp ssp_reg 0) < 32
    named true ssp = h
    named false true = omega arith
    named false false = omega arith

    guarded : (g : Bool) → n < 32 → cond g 0 n < 32
    guarded true k = omega arith
    guarded false k = k

-- the same with the register that is written: register 0 stands for none
pub one_register_written : (trgt : ℕ) (sm : Bool) (dest : ℕ) (reg : List ℕ) (result : ℕ)
    → new_reg trgt sm dest reg result
    ≡ cond (eqb (written_register trgt sm dest) 0) reg (set reg (written_register trgt sm dest) result)
unfolding written_register update_reg
one_register_written trgt sm dest reg result =
    sym (by_the_rule trgt sm dest reg result) ∙ go (is_sup_reg n && not sm) (eqb n 0) refl
  where
    n : ℕ
    n = target_register trgt dest

    go : (guarded none : Bool) → eqb n 0 ≡ none
        → cond none reg (cond guarded reg (set reg n result)) ≡ cond (eqb (cond guarded 0 n) 0) reg (set reg (cond guarded 0 n) result)
    go true true e = refl
    go true false e = refl
    go false none e = rw e

no_more : (x : Bool) → (x || false) ≡ x
no_more true = refl
no_more false = refl

module _ (trgt dest : ℕ) (psw : Psw) (result pc : ℕ) where
  pub may_jump : trgt ≡ to_pcj → new_pc trgt dest psw result pc ≡ cond (jump_cond dest psw) result pc
  unfolding new_pc
  may_jump e = rw e

  pub no_jump : (trgt ≡ to_pcj → ⊥) → new_pc trgt dest psw result pc ≡ cond (eqb trgt to_pc) result pc
  unfolding new_pc
  no_jump e = simp (ne_eqb trgt to_pcj e, no_more (eqb trgt to_pc))

-- with no line high each bit stays
pub psw_kept : (m : Microword) (out : AluOutput) (psw : Psw) → quiet m ≡ true → new_psw m out psw ≡ psw
unfolding quiet new_psw next_psw clocked
psw_kept m out psw q =
    let low = all_clear (eqb m.trgt to_psw) m.ssm m.csm m.sie m.cie m.ldv m.ldn m.ldc m.ldz q in
    rw (low.0, low.1, low.2, low.3, low.4, low.5, low.6, low.7, low.8)
  where
    all_clear : (t a b c d e f g h : Bool) → not (t || (a || b || c || d) || (e || f || g || h)) ≡ true
        → (t ≡ false) × (a ≡ false) × (b ≡ false) × (c ≡ false) × (d ≡ false) × (e ≡ false) × (f ≡ false) × (g ≡ false) × (h ≡ false)
    all_clear true a b c d e f g h q = absurd (false≢true q)
    all_clear false true b c d e f g h q = absurd (false≢true q)
    all_clear false false true c d e f g h q = absurd (false≢true q)
    all_clear false false false true d e f g h q = absurd (false≢true q)
    all_clear false false false false true e f g h q = absurd (false≢true q)
    all_clear false false false false false true f g h q = absurd (false≢true q)
    all_clear false false false false false false true g h q = absurd (false≢true q)
    all_clear false false false false false false false true h q = absurd (false≢true q)
    all_clear false false false false false false false false true q = absurd (false≢true q)
    all_clear false false false false false false false false false q = (refl, refl, refl, refl, refl, refl, refl, refl, refl)

module _ (mem : List ℕ) (m : Microword) (mar result mbr : ℕ) where
  pub word_read : m.rd ≡ true → new_mbr mem m mar result mbr ≡ fetch mem mar
  unfolding new_mbr
  word_read r = rw r

  pub no_read : m.rd ≡ false → new_mbr mem m mar result mbr ≡ cond m.mbr result mbr
  unfolding new_mbr
  no_read r = rw r

module _ (m : Microword) (mar mbr : ℕ) where
  pub written : m.wr ≡ true → new_store m mar mbr ≡ storing mar mbr
  unfolding new_store
  written w = rw w

  pub not_written : m.wr ≡ false → new_store m mar mbr ≡ None
  unfolding new_store
  not_written w = rw w
