-- Four phases are one microcycle: for every control store, memory, phase state and request, whatever the latches held before. The state
-- that the micro level sees, the next address and the store are the same.
use Prim.Native.Nat.{ℕ}
use mathlib.Core.Path.{◌≡◌, refl, ap, ◌∙◌}
use mathlib.Core.Bool.{false}
use mathlib.Core.List.{List}
use lib.ListN.{length}
use Rattle.std.specs.Prelude.{None}
use Rattle.phase_meaning.specs.Machine.{PhaseMachine}
use Rattle.phase_meaning.specs.Phases.{phase_one, phase_two, phase_three, phase_four, next_mpc, phase_store}
use Rattle.phase_meaning.specs.Call.{phase_done, stores, leaves as phase_leaves}
use Rattle.micro_meaning.specs.Machine.{micro_seen}
use Rattle.micro_meaning.specs.Microcycle.{microcycle, next_address, micro_store, leaves}

-- before phase four
abbrev pub three_phases : List ℕ → PhaseMachine → ℕ → PhaseMachine
three_phases urom p request = phase_three (phase_two (phase_one urom p request))

module _ (urom mem : List ℕ) (p : PhaseMachine) (request : ℕ) where
  pub four_phases : micro_seen (phase_four mem (three_phases urom p request)) ≡ microcycle urom mem (micro_seen p) request
  unfolding phase_one phase_two phase_three phase_four next_mpc microcycle next_address
  four_phases = refl

-- The same for four phase steps in a row, from phase number 0 and by the phase numbers, in both outcomes. Only the first request counts;
-- no earlier phase can be refused 8 or stores; the fourth is refused 8 exactly when the microcycle is.
module _ (urom mem : List ℕ) (p : PhaseMachine) (begins : p.phase ≡ 0) (r₁ r₂ r₃ r₄ : ℕ) where
  abbrev pub first : PhaseMachine
  first = phase_done urom mem p r₁

  abbrev pub second : PhaseMachine
  second = phase_done urom mem first r₂

  abbrev pub third : PhaseMachine
  third = phase_done urom mem second r₃

  abbrev pub fourth : PhaseMachine
  fourth = phase_done urom mem third r₄

  is_one : first ≡ phase_one urom p r₁
  unfolding phase_done
  is_one = rw begins

  is_two : second ≡ phase_two (phase_one urom p r₁)
  unfolding phase_done phase_one
  is_two = ap (λ (q : PhaseMachine). phase_done urom mem q r₂) is_one

  is_three : third ≡ three_phases urom p r₁
  unfolding phase_done phase_two
  is_three = ap (λ (q : PhaseMachine). phase_done urom mem q r₃) is_two

  is_four : fourth ≡ phase_four mem (three_phases urom p r₁)
  unfolding phase_done phase_three
  is_four = ap (λ (q : PhaseMachine). phase_done urom mem q r₄) is_three

  pub done_alike : micro_seen fourth ≡ microcycle urom mem (micro_seen p) r₁
  done_alike = ap micro_seen is_four ∙ four_phases urom mem p r₁

  -- the phase numbers go round
  pub begins_again : fourth.phase ≡ 0
  unfolding phase_four
  begins_again = ap (λ (q : PhaseMachine). q.phase) is_four

  pub refused_alike : phase_leaves (length urom) third ≡ leaves urom (micro_seen p) r₁
  unfolding phase_leaves phase_one phase_two phase_three next_mpc leaves next_address
  refused_alike = ap (phase_leaves (length urom)) is_three

  pub stored_alike : stores third ≡ micro_store urom (micro_seen p)
  unfolding stores phase_one phase_two phase_three phase_store micro_store
  stored_alike = ap stores is_three

  pub not_refused_earlier : (phase_leaves (length urom) p ≡ false) × (phase_leaves (length urom) first ≡ false) × (phase_leaves (length urom) second ≡ false)
  unfolding phase_leaves phase_one phase_two
  not_refused_earlier = (rw begins, ap (phase_leaves (length urom)) is_one, ap (phase_leaves (length urom)) is_two)

  pub nothing_stored_earlier : (stores p ≡ None) × (stores first ≡ None) × (stores second ≡ None)
  unfolding stores phase_one phase_two
  nothing_stored_earlier = (rw begins, ap stores is_one, ap stores is_two)
