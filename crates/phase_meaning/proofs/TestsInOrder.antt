-- The tests case by case: the first that fails gives the answer, whatever stands behind it.
use Prim.Native.Nat.{ℕ, ◌<◌, ◌≤◌}
use mathlib.Core.Path.{◌≡◌}
use mathlib.Core.Bool.{true, false, ◌&&◌}
use mathlib.Core.List.{List}
use lib.Dec.{ltb, leb}
use lib.ListN.{length}
use borrow.Author.Tests.{le-leb, lt-leb}
use Rattle.std.specs.Prelude.{Ok, Err}
use Rattle.words.specs.Registers.{register}
use Rattle.answers.specs.declared.Refusal.{Refusal}
use Rattle.answers.specs.declared.Refusal.TheVariants.{Microword, Outside, Request}
use Rattle.control_store.specs.Codes.{legal_microword}
use Rattle.control_store.specs.ControlStore.{machine_test}
use Rattle.phase_meaning.specs.Machine.{PhaseState}
use Rattle.phase_meaning.specs.Tests.{phase_test, last_phase, most_microcycle_request}

module _ (words : ℕ) (program : List ℕ) (s : PhaseState) (request : ℕ) where
  pub lent_refused : (refusal : Refusal) → machine_test words (register s.registers 0) program ≡ Err refusal
      → phase_test words program s request ≡ Err refusal
  unfolding phase_test
  lent_refused refusal e = rw e

  module _ (e : machine_test words (register s.registers 0) program ≡ Ok tt) where
    pub mir_refused : legal_microword s.mir ≡ false → phase_test words program s request ≡ Err (Microword (length program))
    unfolding phase_test
    mir_refused m = rw (e, m)

    module _ (m : legal_microword s.mir ≡ true) where
      pub outside : (ltb s.mpc (length program) && leb s.phase last_phase) ≡ false → phase_test words program s request ≡ Err Outside
      unfolding phase_test
      outside i = rw (e, m, i)

      module _ (i : (ltb s.mpc (length program) && leb s.phase last_phase) ≡ true) where
        pub request_refused : most_microcycle_request < request → phase_test words program s request ≡ Err (Request 0)
        unfolding phase_test
        request_refused r = rw (e, m, i, lt-leb request most_microcycle_request r)

        pub nothing_refused : request ≤ most_microcycle_request → phase_test words program s request ≡ Ok tt
        unfolding phase_test
        nothing_refused r = rw (e, m, i, le-leb request most_microcycle_request r)
