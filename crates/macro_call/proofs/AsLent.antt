-- A call of avm_steps that is refused leaves everything as lent: memory, registers and the seven state words, the PSW's other bits too.
use Prim.Native.Nat.{ℕ}
use mathlib.Core.Path.{◌≡◌, refl}
use mathlib.Core.List.{List, [], ◌∷◌}
use lib.ListN.{length}
use Rattle.std.specs.Prelude.{Ok, Err}
use Rattle.answers.specs.Ends.{End}
use Rattle.macro_meaning.specs.Machine.{macro_unpacked}
use Rattle.macro_meaning.specs.Run.{MacroCalled, macro_test, macro_tested_first, steps, macro_done, run}
use Rattle.calls.specs.Answers.{refused}
use Rattle.calls.specs.Lending.{Found, first_test, found}
use Rattle.macro_call.specs.Steps.{macro_state, steps_found, avm_steps}

module _ (mem registers requests : List ℕ) (psw pc ir mar mbr mpc ivec : ℕ) where
  abbrev pub state : List ℕ
  state = psw ∷ pc ∷ ir ∷ mar ∷ mbr ∷ mpc ∷ ivec ∷ []

  pub record AsLent (call : Found) : Type 0 where
    pub memory : call.memory ≡ mem
    pub registers_kept : call.registers ≡ registers
    pub state_kept : call.state ≡ state

  -- by the outcomes of the tests: the call's own, then the level's
  abbrev called : End → MacroCalled
  called level =
      macro_tested_first level (macro_state registers state) mem
      (macro_done (length requests) (steps mem (macro_unpacked (macro_state registers state)) requests))

  abbrev by_tests : End → End → Found
  by_tests own level = elim own [ Ok _ ↦ steps_found (called level) state | Err refusal ↦ found (refused refusal) mem registers state ]

  as_lent : (own level : End) → ((by_tests own level).answer.number ≡ 0 → ⊥) → AsLent (by_tests own level)
  as_lent (Ok _) (Ok _) refusal = absurd (refusal refl)
  as_lent (Ok _) (Err level) refusal = record { memory = refl; registers_kept = refl; state_kept = refl }
  as_lent (Err own) level refusal = record { memory = refl; registers_kept = refl; state_kept = refl }

  pub steps_as_lent : ((avm_steps mem registers state requests).answer.number ≡ 0 → ⊥) → AsLent (avm_steps mem registers state requests)
  unfolding avm_steps run
  steps_as_lent refusal =
      as_lent (first_test (length mem) (length registers)) (macro_test (length mem) (macro_state registers state) requests) refusal
