-- A run, request by request, and the one induction that the laws of runs are instances of: whatever a completed microcycle keeps, a run
-- keeps.
use Prim.Native.Nat.{ℕ, ◌+◌}
use mathlib.Core.Path.{◌≡◌, refl, sym, subst}
use mathlib.Core.Bool.{Bool, true, false}
use mathlib.Core.List.{List, [], ◌∷◌}
use mir.Val.{bool_byte as num}
use Rattle.std.specs.Prelude.{Err}
use Rattle.answers.specs.declared.Refusal.TheVariants.{NextAddress}
use Rattle.blocks.specs.Memory.{applied}
use Rattle.micro_meaning.specs.declared.MicroMachine.{MicroMachine}
use Rattle.micro_meaning.specs.Microcycle.{microcycle, micro_store, leaves}
use Rattle.micro_meaning.specs.Run.{RanOn, at_fetch, ended, run_on}

-- memory, the machine and the two counts after one microcycle more
abbrev pub Next : List ℕ → (List ℕ → MicroMachine → ℕ → ℕ → Type 0) → List ℕ → MicroMachine → ℕ → ℕ → ℕ → Type 0
Next program P mem s done returns request =
    let next = microcycle program mem s request in
    P (applied (micro_store program s) mem) next (done + 1) (returns + num (at_fetch next))

-- the same where a run ended
abbrev pub EndOf : (List ℕ → MicroMachine → ℕ → ℕ → Type 0) → RanOn → Type 0
EndOf P r = P r.memory r.ran.state r.ran.microcycles.count r.ran.steps.count

module _ (program mem : List ℕ) (s : MicroMachine) (done returns request : ℕ) (rest : List ℕ) where
  pub goes_on : leaves program s request ≡ false
      → run_on program mem s done returns (request ∷ rest)
      ≡ (let next = microcycle program mem s request in
      run_on program (applied (micro_store program s) mem) next (done + 1) (returns + num (at_fetch next)) rest)
  unfolding run_on
  goes_on h = rw h

  pub stops : leaves program s request ≡ true → run_on program mem s done returns (request ∷ rest) ≡ ended (Err NextAddress) mem s done returns
  unfolding run_on
  stops h = rw h

pub kept_through : (program : List ℕ) (P : List ℕ → MicroMachine → ℕ → ℕ → Type 0)
    → ((mem : List ℕ) (s : MicroMachine) (done returns request : ℕ) → leaves program s request ≡ false → P mem s done returns → Next program P mem s done returns request)
    → (requests : List ℕ) (mem : List ℕ) (s : MicroMachine) (done returns : ℕ) → P mem s done returns → EndOf P (run_on program mem s done returns requests)
unfolding run_on
kept_through program P keeps [] mem s done returns p = p
kept_through program P keeps (request ∷ rest) mem s done returns p =
    by_case (leaves program s request) refl
    (kept_through program P keeps rest (applied (micro_store program s) mem) (microcycle program mem s request) (done + 1)
    (returns + num (at_fetch (microcycle program mem s request))))
  where
    by_case : (b : Bool) → leaves program s request ≡ b
        → (Next program P mem s done returns request
        → EndOf P (run_on program (applied (micro_store program s) mem) (microcycle program mem s request) (done + 1)
        (returns + num (at_fetch (microcycle program mem s request))) rest))
        → EndOf P (run_on program mem s done returns (request ∷ rest))
    by_case true h onward = subst (EndOf P) (sym (stops program mem s done returns request rest h)) p
    by_case false h onward = subst (EndOf P) (sym (goes_on program mem s done returns request rest h)) (onward (keeps mem s done returns request h p))
