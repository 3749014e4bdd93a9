-- States to show that something is not so: two instruction words at 0 and 1, a word in register 8, and 0 everywhere else; user mode.
use Prim.Native.Nat.{ℕ, zero, suc, ◌^◌, ◌<◌}
use native.Mathlib.Omega.{arith}
use mathlib.Core.Path.{refl}
use mathlib.Core.List.{◌∷◌}
use lib.Count.{ones}
use lib.ListN.{set, replicate}
use Rattle.words.specs.Lengths.{legal_length}
use Rattle.words.proofs.WordLists.{Words, set_words}
use Rattle.macro_meaning.specs.Step.{Macro}
use Rattle.macro_meaning.specs.Programs.{Legal, clear_psw}

abbrev pub example : ℕ → ℕ → ℕ → Macro
example first second held =
    record {
      machine = record {
        registers = set (replicate 32 0) 8 held;
        psw = clear_psw;
        pc = 0;
        ivec = 0;
      };
      memory = first ∷ second ∷ replicate 14 0;
    }

zeros : (n : ℕ) → Words (replicate n 0)
zeros zero place = omega arith
zeros (suc n) zero = omega arith
zeros (suc n) (suc place) = zeros n place

pub legal_example : (first second held : ℕ) → first < 2 ^ 32 → second < 2 ^ 32 → held < 2 ^ 32 → Legal (example first second held)
unfolding legal_length ones
legal_example first second held h k l =
    record {
      registers = refl;
      zero = refl;
      words = set_words (replicate 32 0) 8 held l (zeros 32);
      pc = omega arith;
      ivec = omega arith;
      size = refl;
      memory = set_words (set (replicate 16 0) 1 second) 0 first h (set_words (replicate 16 0) 1 second k (zeros 16));
    }
