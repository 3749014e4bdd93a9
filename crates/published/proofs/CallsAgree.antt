-- THE TWO CALLS AGREE: what the micro level's run answers on the published microprogram, and what the macro level's run answers on the requests
-- that the fetch microcycles saw. Lent a legal state at fetch and good request bytes, the micro call is done, never refused 8. Where it
-- ends at fetch, the macro call from the same state is done too, with as many steps as the other has returns, the same registers, PSW,
-- PC and vector, and the same memory. A memory length or a register 0 that one refuses the other refuses with the same number.
use Prim.Native.Nat.{ℕ, suc, ◌<◌}
use native.Mathlib.Omega.{arith}
use mathlib.Core.Path.{◌≡◌, refl, sym, ap, subst, ◌∙◌}
use mathlib.Core.Bool.{Bool, true, false, not, cond}
use mathlib.Core.List.{List, [], ◌∷◌}
use lib.ListN.{length}
use mir.Val.{bool_byte as num}
use borrow.Author.Tests.{eq-eqb}
use Rattle.words.specs.Registers.{register}
use Rattle.answers.specs.declared.Steps.{Steps}
use Rattle.answers.specs.declared.Refusal.{Refusal}
use Rattle.answers.specs.Ends.{End, is_done}
use Rattle.std.specs.Prelude.{Result, Ok, Err}
use Rattle.std.specs.Result.{result_and}
use Rattle.answers.specs.Places.{above, first_place}
use Rattle.answers.specs.Tests.{lent_test}
use Rattle.control_store.specs.Sequencer.{fetch_address}
use Rattle.blocks.specs.Memory.{applied}
use Rattle.phase_meaning.specs.Phases.{interrupt}
use Rattle.control_store.specs.ControlStore.{store_test, machine_test}
use Rattle.micro_meaning.specs.declared.MicroMachine.{MicroMachine}
use Rattle.micro_meaning.specs.Microcycle.{microcycle, micro_store}
use Rattle.micro_meaning.specs.declared.MicroState.{MicroState}
use Rattle.micro_meaning.specs.Machine.{micro_unpacked, micro_packed}
use Rattle.micro_meaning.specs.Run.{RanOn, MicroCalled, at_fetch, bad_request, run_on, run}
use Rattle.control_store.proofs.MachineTest.{machine_refused}
use Rattle.micro_meaning.proofs.RunTests.{Fine, lent_refused as micro_lent}
use Rattle.micro_meaning.proofs.RunCalls.{refused as micro_call}
use Rattle.macro_meaning.proofs.RunTests.{lent_refused as macro_lent, nothing_refused}
use Rattle.macro_meaning.proofs.RunCalls.{ran as macro_ran}
use Rattle.micro_meaning.proofs.RunsInARow.{as_run}
use Rattle.macro_meaning.specs.Machine.{macro_packed}
use Rattle.macro_meaning.specs.Step.{Macro}
use Rattle.macro_meaning.specs.Run.{MacroCalled, most_step_request, macro_tested_first, macro_done, run as macro_run}
use Rattle.published.specs.Listing.{published}
use Rattle.published.specs.Clocks.{macro_seen, shows, steps_of, heard}
use Rattle.published.proofs.ReadBack.{passes}
use Rattle.published.proofs.NeverLeaves.{sixty_four}
use Rattle.published.proofs.NeverRefused.{never_refused}
use Rattle.published.proofs.ReturnsAreSteps.{returns_are_steps}

-- what is heard are bytes 0 and 1
all_lines : (requests mem : List ℕ) (s : MicroMachine)
    → first_place (above most_step_request) (heard published mem s requests) ≡ length (heard published mem s requests)
unfolding heard first_place
all_lines [] mem s = refl
all_lines (request ∷ rest) mem s =
    by_place (at_fetch s) (interrupt request) (all_lines rest (applied (micro_store published s) mem) (microcycle published mem s request))
  where
    later : List ℕ
    later = heard published (applied (micro_store published s) mem) (microcycle published mem s request) rest

    by_place : (b i : Bool) → first_place (above most_step_request) later ≡ length later
        → first_place (above most_step_request) (cond b (num i ∷ later) later) ≡ length (cond b (num i ∷ later) later)
    by_place true true e = ap suc e
    by_place true false e = ap suc e
    by_place false i e = e

-- how a macro call ends
abbrev pub end_of : Result Steps Refusal → End
end_of (Ok steps) = Ok tt
end_of (Err refusal) = Err refusal

module _ (mem : List ℕ) (s : MicroState) (requests : List ℕ) where
  abbrev pub lent : End
  lent = lent_test (length mem) (register s.registers 0)

  abbrev pub steps_heard : List ℕ
  steps_heard = heard published mem (micro_unpacked s) requests

  abbrev pub micro : MicroCalled
  micro = run published mem s requests

  abbrev pub macro : MacroCalled
  macro = macro_run mem (macro_seen s) steps_heard

  -- ---- refused alike
  pub micro_refuses : is_done lent ≡ false → micro.answer.end ≡ lent
  micro_refuses h =
      let machine = machine_refused (length mem) (register s.registers 0) published h in
      let test = micro_lent (length mem) published s requests (ap is_done machine ∙ h) ∙ machine in
      ap (λ (c : MicroCalled). c.answer.end) (micro_call published mem s requests (ap is_done test ∙ h)) ∙ test

  pub macro_refuses : is_done lent ≡ false → end_of macro.answer ≡ lent
  unfolding macro_run
  macro_refuses h = rw (macro_lent (length mem) (macro_seen s) steps_heard h) (as_tested lent h _)
    where
      as_tested : (test : End) → is_done test ≡ false → (rest : MacroCalled)
          → end_of (macro_tested_first test (macro_seen s) mem rest).answer ≡ test
      as_tested (Ok _) h rest = cc
      as_tested (Err refusal) h rest = refl

  -- ---- done alike
  module _ (good : is_done lent ≡ true) where
    macro_is : macro ≡ macro_done (length steps_heard) (steps_of (shows mem (micro_unpacked s)) steps_heard)
    macro_is =
        macro_ran mem (macro_seen s) steps_heard
        (nothing_refused (length mem) (macro_seen s) steps_heard good (omega (arith, all_lines requests mem (micro_unpacked s))))

    module _ (good_requests : first_place bad_request requests ≡ length requests) (at_first : s.mpc ≡ fetch_address) where
      tests : Fine (length mem) published s requests
      unfolding machine_test
      tests =
          record {
            lent = store_tested lent good;
            inside = subst (λ (k : ℕ). k < length published) (sym at_first) (subst (λ (n : ℕ). 0 < n) (sym sixty_four) (omega arith));
            requests_good = good_requests;
          }
        where
          store_tested : (test : End) → is_done test ≡ true → is_done (result_and test (store_test published)) ≡ true
          store_tested (Ok _) h = rw passes
          store_tested (Err refusal) h = cc

      abbrev whole : RanOn
      whole = run_on published mem (micro_unpacked s) 0 0 requests

      micro_is : micro ≡ record { answer = record { end = Ok tt; microcycles = whole.ran.microcycles; steps = whole.ran.steps; state = micro_packed whole.ran.state }; memory = whole.memory }
      micro_is = as_run published mem s requests tests ∙ rw (never_refused requests mem (micro_unpacked s) 0 0).ends

      pub micro_done : micro.answer.end ≡ Ok tt
      micro_done = ap (λ (c : MicroCalled). c.answer.end) micro_is

      pub record Agree : Type 0 where
        pub done : macro.answer ≡ Ok micro.answer.steps
        pub state : macro.state ≡ macro_seen micro.answer.state
        pub memory : macro.memory ≡ micro.memory

      pub calls_agree : micro.answer.state.mpc ≡ fetch_address → Agree
      calls_agree back =
          let there = returns_are_steps mem (micro_unpacked s) (eq-eqb s.mpc fetch_address at_first) requests in
          let at_end : at_fetch whole.ran.state ≡ true =
          eq-eqb whole.ran.state.mpc fetch_address (sym (ap (λ (c : MicroCalled). c.answer.state.mpc) micro_is) ∙ back) in
          let shown = there.each_return at_end in
          let count : length steps_heard ≡ whole.ran.steps.count = omega (arith, there.returns, ap (λ (b : Bool). num (not b)) at_end) in
          record {
            done = ap (λ (c : MacroCalled). c.answer) macro_is ∙ ap (λ (n : ℕ). Ok (record { count = n })) count ∙ sym (ap (λ (c : MicroCalled). Ok c.answer.steps) micro_is);
            state =
                ap (λ (c : MacroCalled). c.state) macro_is ∙ ap (λ (x : Macro). macro_packed x.machine) (sym shown)
                ∙ sym (ap (λ (c : MicroCalled). macro_seen c.answer.state) micro_is);
            memory = ap (λ (c : MacroCalled). c.memory) macro_is ∙ ap (λ (x : Macro). x.memory) (sym shown) ∙ sym (ap (λ (c : MicroCalled). c.memory) micro_is);
          }
