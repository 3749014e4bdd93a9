-- A next address has six bits, so a microprogram of 64 words is never left.
use Prim.Native.Nat.{ℕ, ◌^◌, ◌<◌}
use mathlib.Core.Path.{◌≡◌, refl, subst, sym}
use mathlib.Core.Bool.{false}
use mathlib.Core.List.{List}
use lib.ListN.{length}
use borrow.Author.Tests.{lt-leb}
use Rattle.words.proofs.FieldBounds.{field_lt}
use Rattle.control_store.proofs.SixBits.{next_lt}
use Rattle.datapath.specs.Results.{new_mpc}
use Rattle.control_store.specs.ControlStore.{word_at}
use Rattle.micro_meaning.specs.declared.MicroMachine.{MicroMachine}
use Rattle.micro_meaning.specs.Microcycle.{next_address, leaves}
use Rattle.published.specs.Assembler.{packed}
use Rattle.published.specs.Listing.{listing, published}

pub next_address_lt : (program : List ℕ) (s : MicroMachine) (request : ℕ) → next_address program s request < 2 ^ 6
unfolding next_address new_mpc
next_address_lt program s request = next_lt _ _ _ _ _ _ _ (field_lt (word_at program s.mpc) 0 6)

pub sixty_four : length published ≡ 2 ^ 6
unfolding packed listing published
sixty_four = refl

pub never_leaves : (s : MicroMachine) (request : ℕ) → leaves published s request ≡ false
unfolding leaves
never_leaves s request =
    lt-leb (length published) (next_address published s request)
    (subst (λ (n : ℕ). next_address published s request < n) (sym sixty_four) (next_address_lt published s request))
