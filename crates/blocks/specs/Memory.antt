-- Memory as a list of words: `address`, `fetch` and `store` (section 5.2.1, pp. 87-91). An address counts modulo the length (the scope). A
-- microcycle's store is a value of its own, applied in one place. Assumes nothing.
use Rattle.std.specs.Prelude.{ℕ, ◌%◌, List, length, get_or, set, Option, Some, None}
use Rattle.blocks.specs.declared.memory.Store.{Store}

abbrev pub address : List ℕ → ℕ → ℕ
address mem a = a % length mem

unfoldable pub fetch : List ℕ → ℕ → ℕ
fetch mem a = get_or mem (address mem a) 0

unfoldable pub store : List ℕ → ℕ → ℕ → List ℕ
store mem a word = set mem (address mem a) word

-- a word at an address; where nothing is stored, None stands
abbrev pub storing : ℕ → ℕ → Option Store
storing a word = Some (record { address = a; word = word })

abbrev pub applied : Option Store → List ℕ → List ℕ
applied None mem = mem
applied (Some st) mem = store mem st.address st.word
