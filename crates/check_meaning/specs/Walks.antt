-- The walks of a microprogram (the scope, on the control-store checker). A walk starts at fetch and ends at its first return; each of its
-- steps is a microcycle, to one of the possible next addresses of the word it stands on. Assumes nothing.
use Rattle.std.specs.Prelude.{ℕ, suc, ◌^◌, ◌<◌, ◌≡◌, Bool, List, length, get_or}
use Rattle.control_store.specs.Microword.{fields}
use Rattle.control_store.specs.Sequencer.{mpc_unit, fetch_address}

-- MPC_UNIT (section 5.2.2, pp. 103-110) under the word `w` at `a`, with what it reads outside the microword
abbrev pub next_of : ℕ → ℕ → ℕ → Bool → Bool → Bool → ℕ
next_of a w opcode ireq ie sm = mpc_unit a opcode (fields w).addr (fields w).cond ireq ie sm

-- the word `w` at `a` can lead to `b`: there are an opcode, a latched request, an ie and an sm for which the sequencer gives it
pub record Leads (a w b : ℕ) : Type 0 where
  pub opcode : ℕ
  pub five_bits : opcode < 2 ^ 5
  pub ireq : Bool
  pub ie : Bool
  pub sm : Bool
  pub gives : next_of a w opcode ireq ie sm ≡ b

-- `b` is a possible next address of the word at `a`
abbrev pub PossibleNext : List ℕ → ℕ → ℕ → Type 0
PossibleNext program a b = (a < length program) × Leads a (get_or program a 0) b

-- a walk under way: it has done `k` microcycles since fetch, has not been back, and stands on `a`, inside or, where it left, outside
pub data UnderWay (program : List ℕ) : ℕ → ℕ → Type 0 where
  begun : UnderWay program 0 fetch_address
  on : {k a b : ℕ} → UnderWay program k a → PossibleNext program a b → (b ≡ fetch_address → ⊥) → UnderWay program (suc k) b

-- a walk of `n` microcycles, from fetch to its first return
pub data Walk (program : List ℕ) : ℕ → Type 0 where
  returned : {k a : ℕ} → UnderWay program k a → PossibleNext program a fetch_address → Walk program (suc k)
