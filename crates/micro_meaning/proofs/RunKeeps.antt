-- What a run keeps, whatever it is lent and however it ends: memory's length, the count of registers and register 0, MPC inside the
-- microprogram, six PSW bits; and its returns are at most its microcycles.
use Prim.Native.Nat.{ℕ, ◌<◌, ◌≤◌}
use native.Mathlib.Omega.{arith}
use mathlib.Core.Path.{◌≡◌, refl, subst, ◌∙◌}
use mathlib.Core.Bool.{Bool, true, false, cond}
use mathlib.Core.List.{List}
use lib.ListN.{length}
use borrow.Author.Tests.{leb-false}
use Rattle.words.specs.Registers.{register}
use Rattle.words.proofs.FlagNumbers.{num_le}
use Rattle.words.proofs.RegisterRule.{length_kept, zero_kept}
use Rattle.status.proofs.PswNumbers.{six_bits}
use Rattle.answers.specs.Ends.{is_done}
use Rattle.blocks.proofs.MemoryWords.{length_kept as memory_length_kept}
use Rattle.datapath.proofs.Targets.{by_the_rule}
use Rattle.micro_meaning.specs.declared.MicroState.{MicroState}
use Rattle.micro_meaning.specs.declared.MicroMachine.{MicroMachine}
use Rattle.micro_meaning.specs.Machine.{micro_unpacked, micro_packed}
use Rattle.micro_meaning.specs.Microcycle.{microcycle, micro_store, leaves, next_address}
use Rattle.micro_meaning.specs.Run.{MicroCalled, at_fetch, micro_test, run_on, untouched, answered, micro_refused, run}
use Rattle.micro_meaning.proofs.RunInduction.{kept_through}

-- ---- one microcycle
module _ (program mem : List ℕ) (s : MicroMachine) (request : ℕ) where
  by_rule : (P : List ℕ → Type 0) → ((sm : Bool) (n : ℕ) (value : ℕ) → P (Rattle.words.specs.Registers.update_reg sm n s.registers value))
      → P (microcycle program mem s request).registers
  unfolding microcycle
  by_rule P all = subst P (by_the_rule _ _ _ s.registers _) (all _ _ _)

  pub register_0_kept : register (microcycle program mem s request).registers 0 ≡ register s.registers 0
  register_0_kept = by_rule (λ (reg : List ℕ). register reg 0 ≡ register s.registers 0) (λ sm n value. zero_kept sm n s.registers value)

  pub registers_kept : length (microcycle program mem s request).registers ≡ length s.registers
  registers_kept = by_rule (λ (reg : List ℕ). length reg ≡ length s.registers) (λ sm n value. length_kept sm n s.registers value)

  pub stays_inside : leaves program s request ≡ false → (microcycle program mem s request).mpc < length program
  unfolding leaves microcycle
  stays_inside h = leb-false (length program) (next_address program s request) h

-- ---- a run from a machine
module _ (program requests mem : List ℕ) (s : MicroMachine) (done returns : ℕ) where
  pub memory_length : length (run_on program mem s done returns requests).memory ≡ length mem
  memory_length =
      kept_through program (λ mem' s' k n. length mem' ≡ length mem)
      (λ mem' s' k n r h e. memory_length_kept (micro_store program s') mem' ∙ e) requests mem s done returns refl

  pub register_0 : register (run_on program mem s done returns requests).ran.state.registers 0 ≡ register s.registers 0
  register_0 =
      kept_through program (λ mem' s' k n. register s'.registers 0 ≡ register s.registers 0)
      (λ mem' s' k n r h e. register_0_kept program mem' s' r ∙ e) requests mem s done returns refl

  pub registers : length (run_on program mem s done returns requests).ran.state.registers ≡ length s.registers
  registers =
      kept_through program (λ mem' s' k n. length s'.registers ≡ length s.registers)
      (λ mem' s' k n r h e. registers_kept program mem' s' r ∙ e) requests mem s done returns refl

  pub mpc_inside : s.mpc < length program → (run_on program mem s done returns requests).ran.state.mpc < length program
  mpc_inside h =
      kept_through program (λ mem' s' k n. s'.mpc < length program) (λ mem' s' k n r l e. stays_inside program mem' s' r l) requests mem s done returns h

  pub returns_at_most : returns ≤ done → (run_on program mem s done returns requests).ran.steps.count ≤ (run_on program mem s done returns requests).ran.microcycles.count
  returns_at_most h =
      kept_through program (λ mem' s' k n. n ≤ k)
      (λ mem' s' k n r l e. omega (arith, num_le (at_fetch (microcycle program mem' s' r)))) requests mem s done returns h

  -- a count never falls; and where no microcycle was done, nothing moved
  pub count_at_least : done ≤ (run_on program mem s done returns requests).ran.microcycles.count
  count_at_least =
      kept_through program (λ mem' s' k n. done ≤ k) (λ mem' s' k n r l e. omega arith) requests mem s done returns (omega arith)

-- ---- a call
module _ (program mem : List ℕ) (s : MicroState) (requests : List ℕ) where
  -- a call by the outcome of its tests
  abbrev called : Bool → MicroCalled
  called fine = cond fine (answered s (run_on program mem (micro_unpacked s) 0 0 requests)) (micro_refused (micro_test (length mem) program s requests) s mem)

  -- what holds of the state as lent and of the one that the run gives holds of the one that is answered
  state_kept : (R : MicroState → Type 0) → R s → R (micro_packed (run_on program mem (micro_unpacked s) 0 0 requests).ran.state) → R (run program mem s requests).answer.state
  unfolding run
  state_kept R lent ran = by_test (is_done (micro_test (length mem) program s requests))
    where
      by_test : (fine : Bool) → R (called fine).answer.state
      by_test false = lent
      by_test true = by_cut (untouched (run_on program mem (micro_unpacked s) 0 0 requests).ran)
        where
          by_cut : (b : Bool) → R (cond b s (micro_packed (run_on program mem (micro_unpacked s) 0 0 requests).ran.state))
          by_cut true = lent
          by_cut false = ran

  pub call_memory_length : length (run program mem s requests).memory ≡ length mem
  unfolding run
  call_memory_length = by_test (is_done (micro_test (length mem) program s requests))
    where
      by_test : (fine : Bool) → length (called fine).memory ≡ length mem
      by_test false = refl
      by_test true = memory_length program requests mem (micro_unpacked s) 0 0

  pub call_register_0 : register (run program mem s requests).answer.state.registers 0 ≡ register s.registers 0
  call_register_0 =
      state_kept (λ (t : MicroState). register t.registers 0 ≡ register s.registers 0) refl (register_0 program requests mem (micro_unpacked s) 0 0)

  pub call_registers : length (run program mem s requests).answer.state.registers ≡ length s.registers
  call_registers =
      state_kept (λ (t : MicroState). length t.registers ≡ length s.registers) refl (registers program requests mem (micro_unpacked s) 0 0)

  pub call_mpc_inside : s.mpc < length program → (run program mem s requests).answer.state.mpc < length program
  call_mpc_inside h = state_kept (λ (t : MicroState). t.mpc < length program) h (mpc_inside program requests mem (micro_unpacked s) 0 0 h)

  pub call_six_bits : s.psw < 64 → (run program mem s requests).answer.state.psw < 64
  call_six_bits h = state_kept (λ (t : MicroState). t.psw < 64) h (six_bits (run_on program mem (micro_unpacked s) 0 0 requests).ran.state.psw)

  pub call_returns_at_most : (run program mem s requests).answer.steps.count ≤ (run program mem s requests).answer.microcycles.count
  unfolding run
  call_returns_at_most = by_test (is_done (micro_test (length mem) program s requests))
    where
      by_test : (fine : Bool) → (called fine).answer.steps.count ≤ (called fine).answer.microcycles.count
      by_test false = omega arith
      by_test true = returns_at_most program requests mem (micro_unpacked s) 0 0 (omega arith)
