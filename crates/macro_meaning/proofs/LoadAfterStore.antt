-- ST, STI, LD AND LDI. What a store puts at an address, a load from the same address gives back.
use Prim.Native.Nat.{ℕ}
use mathlib.Core.Path.{◌≡◌, ap, ◌∙◌}
use mathlib.Core.Bool.{Bool, true}
use lib.ListN.{set}
use Rattle.words.specs.Fields.{dest}
use Rattle.words.specs.Registers.{update_reg}
use Rattle.blocks.specs.Memory.{address, fetch, store}
use Rattle.blocks.proofs.MemoryWords.{read_alike}
use Rattle.macro_meaning.specs.Effects.{add, inc}
use Rattle.macro_meaning.specs.Instructions.{ld, st, effect}
use Rattle.macro_meaning.specs.Step.{Macro}
use Rattle.macro_meaning.specs.Programs.{next, instruction, holds, Legal, Operates, on_registers, with_immediate, writable, moved_to}
use Rattle.macro_meaning.proofs.StepsTaken.{does, written, has_words}

-- ST or STI: R[d] goes to the address R[a] + R[b] or R[a] + imm (table 5.5, p. 74), and PC goes on
pub stores : (s : Macro) (request : Bool) {a b : ℕ} → Operates 7 15 s request a b
    → next s request
    ≡ record {
      machine = moved_to (inc s.machine.pc) s.machine;
      memory = store s.memory (add a b) (holds s (dest (instruction s)));
    }
unfolding effect st update_reg
stores s request (on_registers d) = does s request d
stores s request (with_immediate d) = does s request d

-- LD or LDI: R[d] gets the word at that address, under the register rule, and PC goes on
pub loads : (s : Macro) (request : Bool) {a b : ℕ} → Operates 6 14 s request a b
    → next s request
    ≡ record {
      machine = record {
        registers = update_reg s.machine.psw.sm (dest (instruction s)) s.machine.registers (fetch s.memory (add a b));
        psw = s.machine.psw;
        pc = inc s.machine.pc;
        ivec = s.machine.ivec;
      };
      memory = s.memory;
    }
unfolding effect ld
loads s request (on_registers d) = does s request d
loads s request (with_immediate d) = does s request d

-- Let a store be followed by a load whose address names the same word (modulo M), into a writable register. Then that register holds the
-- stored word, PC is two on, of memory only that word is changed, and all else is as before.
module _ (s : Macro) (request later : Bool) (legal : Legal s) {a b c d : ℕ} (puts : Operates 7 15 s request a b)
    (gets : Operates 6 14 (next s request) later c d)
    (same : address s.memory (add c d) ≡ address s.memory (add a b)) (to : ℕ) (names : dest (instruction (next s request)) ≡ to) where
  abbrev word : ℕ
  word = holds s (dest (instruction s))

  read : fetch (next s request).memory (add c d) ≡ word
  read =
      ap (λ (t : Macro). fetch t.memory (add c d)) (stores s request puts)
      ∙ read_alike s.memory (add a b) (add c d) word (has_words s legal) same

  pub load_after_store : writable s to ≡ true → next (next s request) later
      ≡ record {
        machine = record {
          registers = set s.machine.registers to word;
          psw = s.machine.psw;
          pc = inc (inc s.machine.pc);
          ivec = s.machine.ivec;
        };
        memory = store s.memory (add a b) word;
      }
  load_after_store free = loads (next s request) later gets ∙ ap loaded read ∙ rw (names, stores s request puts, written s to word free)
    where
      loaded : ℕ → Macro
      loaded value =
          record {
            machine = record {
              registers =
                  update_reg (next s request).machine.psw.sm (dest (instruction (next s request))) (next s request).machine.registers value;
              psw = (next s request).machine.psw;
              pc = inc (next s request).machine.pc;
              ivec = (next s request).machine.ivec;
            };
            memory = (next s request).memory;
          }
