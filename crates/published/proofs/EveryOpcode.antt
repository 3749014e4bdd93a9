-- From fetch to the first return, computed: one equation for the 32 opcodes and one for the interrupt step, each over a symbolic state,
-- memory and requests, and no premise on any of them.
use Prim.Native.Nat.{ℕ, zero, suc, ◌<◌, ◌≤◌}
use native.Mathlib.Nat.{not-suc-le-zero}
use native.Mathlib.Omega.{arith}
use mathlib.Core.Path.{◌≡◌, refl, sym, ap, subst}
use mathlib.Core.Logic.{◌⊎◌, inl, inr}
use mathlib.Core.Bool.{Bool, true, false, ◌&&◌, cond}
use mathlib.Core.List.{List, [], ◌∷◌}
use lib.Dec.{eqb}
use lib.ListN.{get_or, drop}
use borrow.Author.Tests.{ne_eqb}
use Rattle.words.specs.Words.{field, bit}
use Rattle.words.specs.Fields.{opcode}
use Rattle.words.specs.Registers.{update_reg}
use Rattle.words.specs.Shifter.{shifter}
use Rattle.words.proofs.Cases.{lt_or_le}
use Rattle.words.proofs.FieldBounds.{field_lt}
use Rattle.alu.specs.Alu.{alu, added, subtracted, plain}
use Rattle.status.specs.declared.psw.Psw.{Psw}
use Rattle.status.specs.Psw.{clocked, next_psw}
use Rattle.control_store.specs.Sequencer.{add_bt6, mpc_unit, fetch_address}
use Rattle.blocks.specs.Memory.{fetch, applied}
use Rattle.blocks.specs.Sources.{a_source, b_source}
use Rattle.datapath.specs.Operation.{operated, shifted}
use Rattle.datapath.specs.Results.{new_psw, new_reg, new_mpc, new_ir, new_pc, new_mbr, new_mar, new_store}
use Rattle.control_store.specs.ControlStore.{word_at}
use Rattle.phase_meaning.specs.Phases.{interrupt}
use Rattle.micro_meaning.specs.declared.MicroMachine.{MicroMachine}
use Rattle.micro_meaning.specs.Microcycle.{microcycle, micro_store, next_address}
use Rattle.micro_meaning.specs.Run.{at_fetch}
use Rattle.macro_meaning.specs.Effects.{inc}
use Rattle.macro_meaning.specs.Instructions.{jmp, call, interrupted, rti, rtn, gpsw, ppsw, ld, st, shift, arithmetic, logic, noop, computation, effect, eint_key}
use Rattle.macro_meaning.specs.Machine.{MacroMachine}
use Rattle.macro_meaning.specs.Step.{Macro, operands, selected, performed, step}
use Rattle.published.specs.Assembler.{packed}
use Rattle.published.specs.Listing.{eint_u1_address, listing, published}
use Rattle.published.specs.Clocks.{macro_machine, shows, own_cycles, cycles}

-- what a return shows, where it stands, and the microcycles before it
pub record Returned : Type 0 where
  pub shown : Macro
  pub mpc : ℕ
  pub count : ℕ

abbrev pub returned : Macro → ℕ → Returned
returned m c = record { shown = m; mpc = fetch_address; count = c }

abbrev pub one_more : Returned → Returned
one_more r = record { shown = r.shown; mpc = r.mpc; count = suc r.count }

-- the first return from here, looked for in at most n microcycles; `next` gives their requests
abbrev pub first_return : ℕ → List ℕ → MicroMachine → (ℕ → ℕ) → Returned
first_return zero mem s next = record { shown = shows mem s; mpc = s.mpc; count = 0 }
first_return (suc n) mem s next =
    elim (at_fetch s) [
      | true ↦ record { shown = shows mem s; mpc = s.mpc; count = 0 }
      | false ↦ one_more (first_return n (applied (micro_store published s) mem) (microcycle published mem s (next 0)) (λ t. next (suc t)))
    ]

-- what the entry of an instruction word does to a machine and its memory
abbrev stepped : ℕ → ℕ → List ℕ → MacroMachine → Macro
stepped key w mem m = let e = effect key mem (operands w m) in record { machine = performed e m; memory = applied e.store mem }

-- a micro state: what the macro level sees of it but for PC, then PC, and the micro level's own registers
abbrev standing : MacroMachine → ℕ → ℕ → ℕ → ℕ → ℕ → MicroMachine
standing m pc ir mar mbr mpc =
    record { registers = m.registers; psw = m.psw; pc = pc; ir = ir; mar = mar; mbr = mbr; mpc = mpc; ivec = m.ivec }

abbrev behind_decode : ℕ → ℕ → MacroMachine → MicroMachine
behind_decode opcode w m = standing m (inc m.pc) w m.pc w (add_bt6 opcode 4)

-- ---- the opcodes: two lists of what is found and what is meant, highest opcode first, equal by computation
abbrev each : {A : Type 0} → ℕ → (ℕ → A) → List A
each zero f = []
each (suc n) f = f n ∷ each n f

opcodes : (w : ℕ) (mem : List ℕ) (m : MacroMachine) (next : ℕ → ℕ)
    → each 32 (λ k. first_return 4 mem (behind_decode k w m) next) ≡ each 32 (λ k. returned (stepped k w mem m) (own_cycles k))
unfolding published listing packed word_at field bit alu added subtracted plain shifter operated shifted a_source b_source new_psw new_reg new_mpc new_ir new_pc new_mbr new_mar new_store next_psw clocked update_reg mpc_unit add_bt6 next_address micro_store microcycle jmp call interrupted rti rtn gpsw ppsw ld st shift arithmetic logic noop computation effect own_cycles
opcodes w mem m next = refl

-- equal lists have equal entries
entry : {A : Type 0} (n k : ℕ) (f g : ℕ → A) → each n f ≡ each n g → k < n → f k ≡ g k
entry zero k f g e h = absurd (not-suc-le-zero h)
entry (suc n) k f g e h = by_place (lt_or_le k n) (entry n k f g (ap (drop 1) e))
  where
    by_place : (k < n) ⊎ (n ≤ k) → (k < n → f k ≡ g k) → f k ≡ g k
    by_place (inl below) rest = rest below
    by_place (inr past) rest = subst (λ (j : ℕ). f j ≡ g j) (omega arith) (ap (λ l. get_or l 0 (f n)) e)

opcode_lt : (w : ℕ) → opcode w < 32
unfolding opcode
opcode_lt w = field_lt w 26 5

-- ---- behind FETCH, with the interrupt taken or not; `ahead` is how many microcycles are left
abbrev behind_fetch : Bool → List ℕ → MacroMachine → ℕ → MicroMachine
behind_fetch taken mem m ir = standing m m.pc ir m.pc (fetch mem m.pc) (cond taken eint_u1_address 1)

abbrev pub ahead : Bool → ℕ → ℕ
ahead taken w = cond taken 4 (suc (suc (own_cycles (opcode w))))

chosen : (taken : Bool) (ir : ℕ) (mem : List ℕ) (m : MacroMachine) (next : ℕ → ℕ)
    → first_return 6 mem (behind_fetch taken mem m ir) next
    ≡ (let w = fetch mem m.pc in returned (stepped (cond taken eint_key (opcode w)) w mem m) (ahead taken w))
unfolding published listing packed word_at field bit alu added subtracted plain shifter operated shifted a_source b_source new_psw new_reg new_mpc new_ir new_pc new_mbr new_mar new_store next_psw clocked update_reg mpc_unit add_bt6 next_address micro_store microcycle interrupted effect
chosen true ir mem m next = refl
chosen false ir mem m next =
    let w = fetch mem m.pc in
    let later : ℕ → ℕ = λ t. next (suc (suc t)) in
    ap (λ (r : Returned). one_more (one_more r))
    (entry 32 (opcode w) (λ k. first_return 4 mem (behind_decode k w m) later) (λ k. returned (stepped k w mem m) (own_cycles k)) (opcodes w mem m later) (opcode_lt w))

-- ---- from a state at fetch, over one microcycle with its request and then any others
module _ (mem : List ℕ) (s : MicroMachine) (request : ℕ) (next : ℕ → ℕ) where
  abbrev Shows : MicroMachine → Type 0
  Shows s' =
      first_return 6 (applied (micro_store published s') mem) (microcycle published mem s' request) next
      ≡ returned (step mem (macro_machine s) (interrupt request)) (ahead (interrupt request && s.psw.ie) (fetch mem s.pc))

  abbrev from : ℕ → MicroMachine
  from mpc = standing (macro_machine s) s.pc s.ir s.mar s.mbr mpc

  from_fetch : Shows (from fetch_address)
  unfolding step selected published listing packed word_at field bit alu added subtracted plain shifter operated shifted a_source b_source new_psw new_reg new_mpc new_ir new_pc new_mbr new_mar new_store next_psw clocked update_reg mpc_unit add_bt6 next_address micro_store microcycle interrupted effect
  from_fetch = chosen (interrupt request && s.psw.ie) s.ir mem (macro_machine s) next

  pub computed : s.mpc ≡ fetch_address → Shows s
  computed at_first = subst (λ (mpc : ℕ). Shows (from mpc)) (sym at_first) from_fetch

-- the microcycles before it, as `cycles` counts them
pub cycles_are : (int : Bool) (psw : Psw) (w : ℕ) → suc (ahead (int && psw.ie) w) ≡ cycles (selected int psw w)
unfolding selected cycles
cycles_are int psw w = by_choice (int && psw.ie)
  where
    by_choice : (b : Bool) → suc (ahead b w) ≡ cond (eqb (cond b eint_key (opcode w)) eint_key) 5 (suc (suc (suc (own_cycles (cond b eint_key (opcode w))))))
    by_choice true = refl
    by_choice false = rw (ne_eqb (opcode w) eint_key (λ same. omega (arith, opcode_lt w, same)))
