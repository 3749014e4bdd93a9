-- What the code performs is the microcycle: the same next address, the same state with the one register put back, the same store.
use Prim.Native.Nat.{ℕ}
use mathlib.Core.Path.{◌≡◌, refl}
use mathlib.Core.List.{List}
use borrow.Author.Tests.{lt-leb}
use Rattle.words.proofs.FieldBounds.{dest_lt}
use Rattle.control_store.specs.Microword.{fields}
use Rattle.control_store.specs.ControlStore.{word_at}
use Rattle.datapath.proofs.Targets.{one_register_written, written_lt}
use Rattle.micro_meaning.specs.declared.MicroMachine.{MicroMachine}
use Rattle.micro_meaning.specs.declared.Performed.{Performed}
use Rattle.micro_meaning.specs.Microcycle.{microcycle, next_address, micro_store}
use Rattle.micro_meaning.specs.Performing.{core_of, machine, read_of, next_of, performed, put}

module _ (urom mem : List ℕ) (s : MicroMachine) (request : ℕ) where
  abbrev pub done : Performed
  done = performed mem (word_at urom s.mpc) (core_of s) (read_of s.registers s.ir) (next_address urom s request)

  pub same_next : next_of (word_at urom s.mpc) (core_of s) request ≡ next_address urom s request
  unfolding next_of next_address
  same_next = refl

  pub same_state : machine (put s.registers done.register done.value) done.core ≡ microcycle urom mem s request
  unfolding performed microcycle
  same_state =
      let m = fields (word_at urom s.mpc) in
      rw (one_register_written, lt-leb 32 _ (written_lt m.trgt s.psw.sm (dest_lt s.ir)))

  pub same_store : done.store ≡ micro_store urom s
  unfolding performed micro_store
  same_store = refl
