-- FOR EVER. What every step keeps, a program keeps, however many steps it does and whatever is requested: register 0 reads as zero, and a
-- legal state stays legal.
use Prim.Native.Nat.{ℕ}
use mathlib.Core.Path.{◌≡◌, ◌∙◌}
use mathlib.Core.Bool.{Bool}
use mathlib.Core.List.{List, [], ◌∷◌}
use Rattle.macro_meaning.specs.Step.{Macro}
use Rattle.macro_meaning.specs.Run.{up, steps}
use Rattle.macro_meaning.specs.Programs.{next, holds, Legal}
use Rattle.macro_meaning.proofs.RegisterZero.{register_0_kept}
use Rattle.macro_meaning.proofs.LegalStates.{legal_kept}

-- a state after as many steps as there are request bytes
abbrev pub after : List ℕ → Macro → Macro
after requests s = steps s.memory s.machine requests

pub kept_throughout : (P : Macro → Type 0) → ((s : Macro) (request : Bool) → P s → P (next s request))
    → (requests : List ℕ) (s : Macro) → P s → P (after requests s)
unfolding steps
kept_throughout P kept [] s now = now
kept_throughout P kept (request ∷ rest) s now = kept_throughout P kept rest (next s (up request)) (kept s (up request) now)

pub reads_zero_for_ever : (requests : List ℕ) (s : Macro) → holds s 0 ≡ 0 → holds (after requests s) 0 ≡ 0
reads_zero_for_ever = kept_throughout (λ s. holds s 0 ≡ 0) (λ s request zero. register_0_kept s request ∙ zero)

pub legal_for_ever : (requests : List ℕ) (s : Macro) → Legal s → Legal (after requests s)
legal_for_ever = kept_throughout Legal (λ s request legal. legal_kept s legal request)
