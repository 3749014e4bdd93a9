-- The state words of a macro state that was taken from them are those words again.
use Prim.Native.Nat.{ℕ}
use native.Mathlib.Omega.{arith}
use mathlib.Core.Path.{◌≡◌, refl}
use mathlib.Core.List.{List, [], ◌∷◌}
use lib.ListN.{length}
use Rattle.macro_call.specs.Steps.{macro_state, macro_words}

pub words_again : (registers state : List ℕ) → length state ≡ 7 → macro_words (macro_state registers state) state ≡ state
words_again registers (psw ∷ pc ∷ ir ∷ mar ∷ mbr ∷ mpc ∷ ivec ∷ []) seven = refl
words_again registers (psw ∷ pc ∷ ir ∷ mar ∷ mbr ∷ mpc ∷ ivec ∷ eighth ∷ more) seven = absurd (omega arith)
words_again registers (psw ∷ pc ∷ ir ∷ mar ∷ mbr ∷ mpc ∷ []) seven = absurd (omega arith)
words_again registers (psw ∷ pc ∷ ir ∷ mar ∷ mbr ∷ []) seven = absurd (omega arith)
words_again registers (psw ∷ pc ∷ ir ∷ mar ∷ []) seven = absurd (omega arith)
words_again registers (psw ∷ pc ∷ ir ∷ []) seven = absurd (omega arith)
words_again registers (psw ∷ pc ∷ []) seven = absurd (omega arith)
words_again registers (psw ∷ []) seven = absurd (omega arith)
words_again registers [] seven = absurd (omega arith)
