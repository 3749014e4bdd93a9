-- LEGAL STATES stay legal: from a state that a caller can lend, every step leads to such a state. Many laws ask for a legal state; by this
-- one a program that begins in one never leaves them (Throughout).
use Prim.Native.Nat.{ℕ, ◌^◌, ◌<◌}
use native.Mathlib.Nat.{lt_of_lt_of_le, lt_of_le_of_lt}
use native.Mathlib.Omega.{arith}
use mathlib.Core.Path.{ap, ◌∙◌}
use mathlib.Core.Bool.{Bool, true, false, cond}
use lib.Bits.{bit_and, and_le_l}
use Rattle.words.specs.Fields.{imm, srca, srcb, dest}
use Rattle.words.specs.Lengths.{legal_length}
use Rattle.words.specs.Registers.{ssp_reg, update_reg}
use Rattle.words.proofs.FieldBounds.{field_lt}
use Rattle.words.proofs.WordLists.{Words, set_words}
use Rattle.words.proofs.RegisterRule.{stored_or_not, length_kept, zero_kept}
use Rattle.alu.proofs.Sums.{sum_lt, difference_lt}
use Rattle.status.specs.Jump.{jump_cond}
use Rattle.status.proofs.PswNumbers.{six_bits}
use Rattle.blocks.specs.declared.memory.Store.{Store}
use Rattle.std.specs.Prelude.{Option, Some, None}
use Rattle.blocks.specs.Memory.{address, fetch, store, applied}
use Rattle.blocks.proofs.MemoryWords as MemoryWords
use Rattle.macro_meaning.specs.declared.Effect.{Effect}
use Rattle.macro_meaning.specs.Effects.{add, inc}
use Rattle.macro_meaning.specs.Instructions.{jmp, call, interrupted, rti, rtn, gpsw, ppsw, ld, st, shift, arithmetic, logic, noop}
use Rattle.macro_meaning.specs.Step.{Macro}
use Rattle.macro_meaning.specs.Programs.{next, instruction, entry, holds, Legal}
use Rattle.macro_meaning.proofs.StepsTaken.{reads, what_it_does, by_its_entry}
use Rattle.macro_meaning.proofs.EveryInstruction.{OperandWords, Kinds, every}

-- ---- what an instruction computes is a word

-- the word that is stored; 0 stands for none
abbrev stored_word : Option Store → ℕ
stored_word None = 0
stored_word (Some st) = st.word

record WordsOut (e : Effect) : Type 0 where
  value : e.value < 2 ^ 32
  pc : e.pc < 2 ^ 32
  stored : stored_word e.store < 2 ^ 32

one_of_two : (t : Bool) (x y : ℕ) → x < 2 ^ 32 → y < 2 ^ 32 → cond t x y < 2 ^ 32
one_of_two true x y hx hy = hx
one_of_two false x y hx hy = hy

low_byte : (x : ℕ) → bit_and 255 x < 2 ^ 32
low_byte x = lt_of_le_of_lt (and_le_l 255 x) (omega arith)

module _ (s : Macro) (legal : Legal s) (request : Bool) where
  small : 0 < 2 ^ 32
  small = omega arith

  next_pc : inc s.machine.pc < 2 ^ 32
  next_pc = sum_lt s.machine.pc 1 false

  fetched : (a : ℕ) → fetch s.memory a < 2 ^ 32
  unfolding fetch
  fetched a = legal.memory (address s.memory a)

  reads_words : OperandWords (reads s)
  unfolding imm
  reads_words =
      record {
        a = legal.words (srca (instruction s));
        b = legal.words (srcb (instruction s));
        imm = lt_of_lt_of_le (field_lt (instruction s) 0 16) (omega arith);
      }

  pushes : (pc back : ℕ) → pc < 2 ^ 32 → back < 2 ^ 32 → WordsOut (interrupted (reads s) pc back)
  unfolding interrupted
  pushes pc back h k = record { value = sum_lt (holds s ssp_reg) 1 false; pc = h; stored = k }

  jumped : cond (jump_cond (dest (instruction s)) s.machine.psw) (add (reads s).a (reads s).imm) (inc s.machine.pc) < 2 ^ 32
  jumped =
      one_of_two (jump_cond (dest (instruction s)) s.machine.psw) (add (reads s).a (reads s).imm) (inc s.machine.pc)
      (sum_lt (reads s).a (reads s).imm false) next_pc

  kinds : Kinds (entry s request) s.memory (reads s) WordsOut
  unfolding jmp call rti rtn gpsw ppsw ld st shift arithmetic logic noop
  kinds =
      record {
        jmp_kind = record { value = small; pc = jumped; stored = small };
        call_kind = λ k. record { value = sum_lt (reads s).d 1 false; pc = sum_lt (reads s).a (reads s).imm false; stored = next_pc };
        int_kind = λ k. pushes (bit_and 255 (reads s).imm) (inc s.machine.pc) (low_byte (reads s).imm) next_pc;
        rti_kind = λ k. record { value = difference_lt (reads s).ssp 1 false; pc = fetched _; stored = small };
        gpsw_kind = record { value = lt_of_lt_of_le (six_bits _) (omega arith); pc = next_pc; stored = small };
        ppsw_kind = record { value = small; pc = next_pc; stored = small };
        ld_kind = λ offset. record { value = fetched _; pc = next_pc; stored = small };
        st_kind = λ k offset. record { value = small; pc = next_pc; stored = legal.words (dest (instruction s)) };
        shift_kind = λ value out word. record { value = word reads_words; pc = next_pc; stored = small };
        rtn_kind = record { value = difference_lt (reads s).d 1 false; pc = fetched _; stored = small };
        eint_kind = λ k. pushes (bit_and 255 (reads s).ivec) s.machine.pc (low_byte (reads s).ivec) legal.pc;
        arithmetic_kind = λ out word. record { value = word; pc = next_pc; stored = small };
        logic_kind = λ out word. record { value = word reads_words; pc = next_pc; stored = small };
        noop_kind = record { value = small; pc = next_pc; stored = small };
      }

  abbrev effect_is : Effect
  effect_is = what_it_does s request

  words_out : WordsOut effect_is
  words_out = every (entry s request) s.memory (reads s) WordsOut kinds

  registers_after : Words (update_reg effect_is.sm effect_is.register s.machine.registers effect_is.value)
  registers_after =
      stored_or_not Words effect_is.sm effect_is.register s.machine.registers effect_is.value legal.words
      (λ h. set_words s.machine.registers effect_is.register effect_is.value words_out.value legal.words)

  memory_after : (st : Option Store) → stored_word st < 2 ^ 32 → Words (applied st s.memory)
  unfolding store
  memory_after None h = legal.memory
  memory_after (Some st) h = set_words s.memory (address s.memory st.address) st.word h legal.memory

  pub legal_kept : Legal (next s request)
  legal_kept =
      rw (by_its_entry s request)
      (record {
        registers = length_kept effect_is.sm effect_is.register s.machine.registers effect_is.value ∙ legal.registers;
        zero = zero_kept effect_is.sm effect_is.register s.machine.registers effect_is.value ∙ legal.zero;
        words = registers_after;
        pc = words_out.pc;
        ivec = legal.ivec;
        size = ap legal_length (MemoryWords.length_kept effect_is.store s.memory) ∙ legal.size;
        memory = memory_after effect_is.store words_out.stored;
      })
