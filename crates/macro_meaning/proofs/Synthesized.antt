-- SYNTHESIZED INSTRUCTIONS (table 5.6, p. 75) that do what the table says: move, clear, test, increment, decrement, and negate, which the
-- table calls complement. Each is one instruction with its fields as printed.
use Prim.Native.Nat.{ℕ, ◌+◌, ◌-◌, ◌%◌, ◌^◌, ◌<◌}
use native.Mathlib.Omega.{arith}
use mathlib.Core.Path.{◌≡◌, ap, ◌∙◌}
use mathlib.Core.Bool.{Bool, true, false}
use lib.ListN.{set}
use Rattle.words.specs.Words.{wordn, bnot, negp, zerop}
use Rattle.words.specs.Fields.{dest, srca, srcb, imm}
use Rattle.words.specs.Registers.{update_reg}
use Rattle.alu.specs.Alu.{sum, difference, added, subtracted, plain, add_without_carry, sub_without_carry}
use Rattle.alu.proofs.AddedZero.{added_zero}
use Rattle.status.specs.declared.psw.Psw.{Psw}
use Rattle.macro_meaning.specs.Effects.{inc, zcnv}
use Rattle.macro_meaning.specs.Step.{Macro}
use Rattle.macro_meaning.specs.Programs.{next, instruction, holds, Legal, Does, on_registers, with_immediate, writable}
use Rattle.macro_meaning.proofs.StepsTaken.{written}
use Rattle.macro_meaning.proofs.SumSteps.{put_out, add_puts, sub_puts}

-- a PSW that shows a value: z where it is zero, n where its bit 31 is set, neither carry nor overflow
abbrev pub showing : Psw → ℕ → Psw
showing p value = record { sm = p.sm; ie = p.ie; v = false; n = negp value; c = false; z = zerop value }

-- a state one instruction on, with a register and the PSW changed
abbrev pub on_with : Macro → ℕ → ℕ → Psw → Macro
on_with s register value psw =
    record {
      machine = record {
        registers = set s.machine.registers register value;
        psw = psw;
        pc = inc s.machine.pc;
        ivec = s.machine.ivec;
      };
      memory = s.memory;
    }

-- ---- the three values as numbers

one_more : (x : ℕ) → sum x 1 false ≡ (x + 1) % 2 ^ 32
unfolding sum wordn
one_more x = omega arith

one_less : (x : ℕ) → difference x 1 false ≡ (x + (2 ^ 32 - 1)) % 2 ^ 32
unfolding difference sum wordn bnot
one_less x = omega arith

minus : (x : ℕ) → x < 2 ^ 32 → difference 0 x false ≡ (2 ^ 32 - x) % 2 ^ 32
unfolding difference sum wordn bnot
minus x h = omega arith

-- ---- the instructions

module _ (s : Macro) (request : Bool) (legal : Legal s) where
  abbrev own : ℕ
  own = dest (instruction s)

  abbrev source : ℕ
  source = holds s (srca (instruction s))

  -- ---- ADD with register 0 as second source

  with_zero : Does 16 s request → srcb (instruction s) ≡ 0 → next s request ≡ put_out s (plain source)
  with_zero d zero =
      add_puts s request (on_registers d) ∙ ap (λ (b : ℕ). put_out s (add_without_carry source b)) (ap (holds s) zero ∙ legal.zero)
      ∙ ap (put_out s) (added_zero source (legal.words (srca (instruction s))))

  -- move s to d, ADD R[d] R[s] R[0]: R[d] gets R[s]; the flags show it
  pub move : Does 16 s request → srcb (instruction s) ≡ 0 → writable s own ≡ true
      → next s request ≡ on_with s own source (showing s.machine.psw source)
  unfolding plain
  move d zero free = with_zero d zero ∙ rw (written s own source free)

  -- clear d, ADD R[d] R[0] R[0]: R[d] gets 0; the flags show it
  pub clear : Does 16 s request → srca (instruction s) ≡ 0 → srcb (instruction s) ≡ 0 → writable s own ≡ true
      → next s request ≡ on_with s own 0 (showing s.machine.psw 0)
  clear d first second free = move d second free ∙ rw (first, legal.zero)

  -- test s, ADD R[0] R[s] R[0]: no register changes; the flags show R[s]
  pub test : Does 16 s request → own ≡ 0 → srcb (instruction s) ≡ 0
      → next s request
      ≡ record {
        machine = record {
          registers = s.machine.registers;
          psw = showing s.machine.psw source;
          pc = inc s.machine.pc;
          ivec = s.machine.ivec;
        };
        memory = s.memory;
      }
  unfolding update_reg plain
  test d none zero = with_zero d zero ∙ rw none

  -- ---- a register counted up or down, or negated; the flags are those of the sum or difference

  abbrev old : ℕ
  old = holds s own

  -- increment s, ADDI R[s] R[s] 1: one more, and 0 after 2 ^ 32 - 1
  pub increment : Does 24 s request → srca (instruction s) ≡ own → imm (instruction s) ≡ 1 → writable s own ≡ true
      → next s request ≡ on_with s own ((old + 1) % 2 ^ 32) (zcnv s.machine.psw (add_without_carry old 1))
  unfolding added
  increment d same one free = add_puts s request (with_immediate d) ∙ rw (same, one, written s own (sum old 1 false) free, one_more old)

  -- decrement s, SUBI R[s] R[s] 1: one less, and 2 ^ 32 - 1 after 0
  pub decrement : Does 26 s request → srca (instruction s) ≡ own → imm (instruction s) ≡ 1 → writable s own ≡ true
      → next s request ≡ on_with s own ((old + (2 ^ 32 - 1)) % 2 ^ 32) (zcnv s.machine.psw (sub_without_carry old 1))
  unfolding subtracted
  decrement d same one free =
      sub_puts s request (with_immediate d) ∙ rw (same, one, written s own (difference old 1 false) free, one_less old)

  -- complement s, SUB R[s] R[0] R[s]: minus R[s], the word that added to R[s] gives 0 (2 ^ 31 stays, with v set);
  -- the bitwise complement is BNOT
  pub negate : Does 18 s request → srca (instruction s) ≡ 0 → srcb (instruction s) ≡ own → writable s own ≡ true
      → next s request ≡ on_with s own ((2 ^ 32 - old) % 2 ^ 32) (zcnv s.machine.psw (sub_without_carry 0 old))
  unfolding subtracted
  negate d zero same free =
      sub_puts s request (on_registers d)
      ∙ rw (zero, legal.zero, same, written s own (difference 0 old false) free, minus old (legal.words own))
