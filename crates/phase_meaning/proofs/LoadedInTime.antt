-- What phases one and three load is there in time, and nothing older counts. The request latch after phase one depends on the request alone,
-- so no earlier request is kept; where a microword has MAR and PMUX set, MAR is PC before phase four uses memory.
use Prim.Native.Nat.{ℕ}
use mathlib.Core.Path.{◌≡◌, refl, ap, ◌∙◌}
use mathlib.Core.Bool.{Bool, true, cond, ◌&&◌}
use mathlib.Core.List.{List}
use Rattle.control_store.specs.Microword.{fields}
use Rattle.phase_meaning.specs.Machine.{PhaseMachine}
use Rattle.phase_meaning.specs.Phases.{phase_one, phase_three}

pub request_latched_anew : (urom other : List ℕ) (s t : PhaseMachine) (request : ℕ)
    → (phase_one urom s request).ireq ≡ (phase_one other t request).ireq
unfolding phase_one
request_latched_anew urom other s t request = refl

pub mar_from_pc_in_time : (s : PhaseMachine) → (fields s.mir).pmux ≡ true → (fields s.mir).mar ≡ true → (phase_three s).mar ≡ s.pc
unfolding phase_three
mar_from_pc_in_time s from_pc loaded =
    ap (λ (pmux : Bool). cond (pmux && (fields s.mir).mar) s.pc s.mar) from_pc
    ∙ ap (λ (mar : Bool). cond mar s.pc s.mar) loaded
