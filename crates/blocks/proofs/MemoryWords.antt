-- Memory: without words there is nothing to fetch or to store; a store keeps the length, changes at most its own word, and is read back.
use Prim.Native.Nat.{ℕ, ◌%◌, ◌<◌}
use native.Mathlib.Nat.{mod-lt}
use mathlib.Core.Path.{◌≡◌, refl, ap, ◌∙◌}
use mathlib.Core.List.{List, [], ◌∷◌}
use native.Mathlib.Omega.{arith}
use lib.ListN.{length, get_or, length-set}
use lib.Seq.{get_or-set_same, get_or-set_other}
use Rattle.blocks.specs.declared.memory.Store.{Store}
use Rattle.std.specs.Prelude.{Option, Some, None}
use Rattle.blocks.specs.Memory.{address, fetch, store, applied}

pub nothing_fetched : (mem : List ℕ) (a : ℕ) → length mem ≡ 0 → fetch mem a ≡ 0
unfolding fetch
nothing_fetched [] a none = refl
nothing_fetched (x ∷ xs) a none = omega arith

pub nothing_stored : (st : Option Store) (mem : List ℕ) → length mem ≡ 0 → applied st mem ≡ mem
unfolding store
nothing_stored None mem none = refl
nothing_stored (Some st) [] none = refl
nothing_stored (Some st) (x ∷ xs) none = absurd (omega arith)

pub length_kept : (st : Option Store) (mem : List ℕ) → length (applied st mem) ≡ length mem
unfolding store
length_kept None mem = refl
length_kept (Some st) mem = length-set mem (address mem st.address) st.word

pub read_alike : (mem : List ℕ) (a b word : ℕ) → 0 < length mem → address mem b ≡ address mem a → fetch (store mem a word) b ≡ word
unfolding fetch store
read_alike mem a b word some same =
    ap (λ (place : ℕ). get_or (store mem a word) place 0) (ap (λ (n : ℕ). b % n) (length-set mem (address mem a) word) ∙ same)
    ∙ get_or-set_same mem (address mem a) word 0 (mod-lt a some)

pub read_back : (mem : List ℕ) (a word : ℕ) → 0 < length mem → fetch (store mem a word) a ≡ word
read_back mem a word some = read_alike mem a a word some refl

pub kept_elsewhere : (mem : List ℕ) (a b word : ℕ) → (address mem b ≡ address mem a → ⊥) → fetch (store mem a word) b ≡ fetch mem b
unfolding fetch store
kept_elsewhere mem a b word apart = rw length-set (get_or-set_other mem (address mem a) (address mem b) word 0 apart)
