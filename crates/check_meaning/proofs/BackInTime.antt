-- AN ACCEPTED MICROPROGRAM IS BACK IN TIME. Let a microprogram be accepted with n, and let a machine stand at fetch, in any state, with any
-- memory and any requests. Its run is never refused 8: it does a microcycle for each request. And it makes a return within n microcycles,
-- and again within n from each return: c returns within c n microcycles, for every c. Reset is not read, so nothing is asked of it.
use Prim.Native.Nat.{ℕ, zero, suc, ◌+◌, ◌*◌, ◌<◌, ◌≤◌}
use native.Mathlib.Nat.{add-zero, zero-add, suc-mul}
use native.Mathlib.Omega.{arith}
use mathlib.Core.Path.{◌≡◌, refl, sym, ap, subst, ◌∙◌}
use mathlib.Core.Bool.{Bool, true, false, cond}
use mathlib.Core.Logic.{◌⊎◌, inl, inr, ⊎_elim}
use mathlib.Core.List.{List, [], ◌∷◌, ◌++◌}
use lib.Dec.{eqb}
use lib.ListN.{length}
use mir.Val.{bool_byte as num}
use borrow.Author.Tests.{lt-leb, eqb-true, eqb-false}
use Rattle.words.specs.Fields.{opcode}
use Rattle.words.proofs.FieldBounds.{field_lt}
use Rattle.answers.specs.Ends.{End}
use Rattle.std.specs.Prelude.{Ok}
use Rattle.answers.specs.Ends.{shown, is_done}
use Rattle.answers.proofs.OneNumberAnEnd.{only_done_is_done}
use Rattle.control_store.specs.Sequencer.{fetch_address}
use Rattle.blocks.specs.Memory.{applied}
use Rattle.datapath.specs.Results.{new_mpc}
use Rattle.control_store.specs.ControlStore.{word_at}
use Rattle.phase_meaning.specs.Phases.{interrupt}
use Rattle.micro_meaning.specs.declared.MicroMachine.{MicroMachine}
use Rattle.micro_meaning.specs.Microcycle.{next_address, microcycle, micro_store, leaves}
use Rattle.micro_meaning.specs.declared.MicroState.{MicroState}
use Rattle.micro_meaning.specs.Machine.{micro_unpacked}
use Rattle.micro_meaning.specs.Run.{RanOn, at_fetch, run_on, MicroCalled, micro_test, answered, micro_refused, run}
use Rattle.micro_meaning.proofs.RunInduction.{goes_on}
use Rattle.micro_meaning.proofs.RunJoins.{joined}
use Rattle.micro_meaning.proofs.TestNumbers.{at_most_7}
use Rattle.check_meaning.specs.Walks.{PossibleNext, UnderWay, Walk}
use Rattle.check_meaning.specs.Walks.UnderWay.{begun, on}
use Rattle.check_meaning.specs.Walks.Walk.{returned}
use Rattle.check_meaning.specs.Meaning.{Accepted}
use Rattle.check_meaning.proofs.WalksGoOn.{stays_inside, inside, comes_back}

-- what a microcycle does next is possible
possible : (program : List ℕ) (s : MicroMachine) (request : ℕ) → s.mpc < length program → PossibleNext program s.mpc (next_address program s request)
unfolding next_address new_mpc word_at opcode
possible program s request h = (
  h,
  record {
    opcode = opcode s.ir;
    five_bits = field_lt s.ir 26 5;
    ireq = interrupt request;
    ie = s.psw.ie;
    sm = s.psw.sm;
    gives = refl;
  },
)

-- where there is a walk, there is a word at fetch
some_word : {program : List ℕ} {n : ℕ} → Walk program n → fetch_address < length program
some_word (returned u next) = let inside = next.0 in omega (arith, inside)

module _ (program : List ℕ) {n : ℕ} (accepted : Accepted program n) where
  some : fetch_address < length program
  some = some_word accepted.walk

  -- ---- one microcycle of a machine that stands where a walk under way does
  module _ (mem : List ℕ) (s : MicroMachine) (request : ℕ) {k : ℕ} (u : UnderWay program k s.mpc) where
    here : PossibleNext program s.mpc (next_address program s request)
    here = possible program s request (inside program accepted.none_leaves some u)

    stays : leaves program s request ≡ false
    unfolding leaves
    stays = lt-leb (length program) (next_address program s request) (stays_inside program accepted.none_leaves some u here)

    -- back at fetch, which ends a walk of at most n microcycles; or the walk goes on
    BackOrOn : Type 0
    BackOrOn =
        ((at_fetch (microcycle program mem s request) ≡ true) × (suc k ≤ n) × UnderWay program 0 (microcycle program mem s request).mpc)
        ⊎ ((at_fetch (microcycle program mem s request) ≡ false) × UnderWay program (suc k) (microcycle program mem s request).mpc)

    back_or_on : BackOrOn
    unfolding BackOrOn microcycle
    back_or_on = by_fetch (eqb (next_address program s request) fetch_address) refl
      where
        by_fetch : (b : Bool) → eqb (next_address program s request) fetch_address ≡ b
            → ((eqb (next_address program s request) fetch_address ≡ true) × (suc k ≤ n) × UnderWay program 0 (next_address program s request))
            ⊎ ((eqb (next_address program s request) fetch_address ≡ false) × UnderWay program (suc k) (next_address program s request))
        by_fetch true t =
            let e = eqb-true (next_address program s request) fetch_address t in
            inl (t, accepted.longest (suc k) (returned u (subst (PossibleNext program s.mpc) e here)), subst (UnderWay program 0) (sym e) begun)
        by_fetch false t = inr (t, on u here (eqb-false (next_address program s request) fetch_address t))

  -- ---- a run from there
  record Whole (done : ℕ) (requests : List ℕ) (r : RanOn) : Type 0 where
    ends : r.ran.end ≡ Ok tt
    microcycles : r.ran.microcycles.count ≡ done + length requests

  one_on : (mem : List ℕ) (s : MicroMachine) (done returns request : ℕ) (rest : List ℕ) {k : ℕ} → UnderWay program k s.mpc
      → run_on program mem s done returns (request ∷ rest)
      ≡ run_on program (applied (micro_store program s) mem) (microcycle program mem s request) (done + 1)
      (returns + num (at_fetch (microcycle program mem s request))) rest
  one_on mem s done returns request rest u = goes_on program mem s done returns request rest (stays mem s request u)

  still_under_way : (mem : List ℕ) (s : MicroMachine) (request : ℕ) {k : ℕ} → UnderWay program k s.mpc
      → (j : ℕ) × UnderWay program j (microcycle program mem s request).mpc
  unfolding BackOrOn
  still_under_way mem s request {k} u = ⊎_elim (λ (t, l, v). (0, v)) (λ (t, v). (suc k, v)) (back_or_on mem s request u)

  whole : (requests mem : List ℕ) (s : MicroMachine) (done returns : ℕ) {k : ℕ} → UnderWay program k s.mpc
      → Whole done requests (run_on program mem s done returns requests)
  unfolding run_on
  whole [] mem s done returns u = record { ends = refl; microcycles = sym (add-zero done) }
  whole (request ∷ rest) mem s done returns u =
      let (j, v) = still_under_way mem s request u in
      let later = whole rest (applied (micro_store program s) mem) (microcycle program mem s request) (done + 1) (returns + num (at_fetch (microcycle program mem s request))) v in
      let same = one_on mem s done returns request rest u in
      let count = later.microcycles in
      record {
        ends = ap (λ (r : RanOn). r.ran.end) same ∙ later.ends;
        microcycles = ap (λ (r : RanOn). r.ran.microcycles.count) same ∙ omega (arith, count);
      }

  keep_coming : (requests : List ℕ) (c : ℕ) (mem : List ℕ) (s : MicroMachine) (done returns : ℕ) {k : ℕ} → UnderWay program k s.mpc
      → c * n ≤ k + length requests → returns + c ≤ (run_on program mem s done returns requests).ran.steps.count
  unfolding run_on BackOrOn
  keep_coming [] zero mem s done returns u h = omega arith
  keep_coming [] (suc c) mem s done returns u h =
      let (m, l, w) = comes_back program accepted.none_leaves some accepted.all_back u in
      let most = accepted.longest m w in
      let one_more = suc-mul c n in
      absurd (omega (arith, h, l, most, one_more))
  keep_coming (request ∷ rest) c mem s done returns {k} u h =
      subst (λ (r : RanOn). returns + c ≤ r.ran.steps.count) (sym (one_on mem s done returns request rest u))
      (⊎_elim
      (λ (t, l, v). back c h t l (λ (i : ℕ). keep_coming rest i (applied (micro_store program s) mem) (microcycle program mem s request) (done + 1)
      (returns + num (at_fetch (microcycle program mem s request))) v))
      (λ (t, v). let none : num (at_fetch (microcycle program mem s request)) ≡ 0 = ap num t in
      let later = keep_coming rest c (applied (micro_store program s) mem) (microcycle program mem s request) (done + 1)
      (returns + num (at_fetch (microcycle program mem s request))) v (omega (arith, h)) in
      omega (arith, later, none))
      (back_or_on mem s request u))
    where
      steps : ℕ
      steps =
          (run_on program (applied (micro_store program s) mem) (microcycle program mem s request) (done + 1)
          (returns + num (at_fetch (microcycle program mem s request))) rest).ran.steps.count

      back : (c : ℕ) → c * n ≤ k + suc (length rest) → at_fetch (microcycle program mem s request) ≡ true → suc k ≤ n
          → ((i : ℕ) → i * n ≤ 0 + length rest → returns + num (at_fetch (microcycle program mem s request)) + i ≤ steps) → returns + c ≤ steps
      back zero h t l later = let least = later 0 (omega arith) in omega (arith, least)
      back (suc c) h t l later =
          let one : num (at_fetch (microcycle program mem s request)) ≡ 1 = ap num t in
          let one_more = suc-mul c n in
          let rest_too = later c (omega (arith, h, l, one_more)) in
          omega (arith, rest_too, one)

  -- ---- the theorem, for a machine
  module _ (mem : List ℕ) (s : MicroMachine) (at_first : s.mpc ≡ fetch_address) (requests : List ℕ) where
    first : UnderWay program 0 s.mpc
    first = subst (UnderWay program 0) (sym at_first) begun

    pub never_refused : (run_on program mem s 0 0 requests).ran.end ≡ Ok tt
    never_refused = (whole requests mem s 0 0 first).ends

    pub all_microcycles : (run_on program mem s 0 0 requests).ran.microcycles.count ≡ length requests
    all_microcycles = (whole requests mem s 0 0 first).microcycles ∙ zero-add (length requests)

    pub returns_keep_coming : (c : ℕ) → c * n ≤ length requests → c ≤ (run_on program mem s 0 0 requests).ran.steps.count
    returns_keep_coming c h = let enough = keep_coming requests c mem s 0 0 first (omega (arith, h)) in omega (arith, enough)

    pub back_in_time : n ≤ length requests → 1 ≤ (run_on program mem s 0 0 requests).ran.steps.count
    back_in_time h = returns_keep_coming 1 (omega (arith, h))

    -- from wherever the run is back at fetch
    pub again_in_time : (more : List ℕ) → at_fetch (run_on program mem s 0 0 requests).ran.state ≡ true → n ≤ length more
        → suc (run_on program mem s 0 0 requests).ran.steps.count ≤ (run_on program mem s 0 0 (requests ++ more)).ran.steps.count
    again_in_time more back h =
        let r = run_on program mem s 0 0 requests in
        let there = subst (UnderWay program 0) (sym (eqb-true r.ran.state.mpc fetch_address back)) begun in
        let one = keep_coming more 1 r.memory r.ran.state r.ran.microcycles.count r.ran.steps.count there (omega (arith, h)) in
        subst (λ (all : RanOn). suc r.ran.steps.count ≤ all.ran.steps.count) (sym (joined program requests more mem s 0 0 (ap is_done never_refused)))
        (omega (arith, one))

  -- ---- and for a call: how it ends is how its tests end, 0 to 7; and where they pass, it is back in time
  module _ (mem : List ℕ) (s : MicroState) (at_first : s.mpc ≡ fetch_address) (requests : List ℕ) where
    test : End
    test = micro_test (length mem) program s requests

    by_test : Bool → MicroCalled
    by_test b = cond b (answered s (run_on program mem (micro_unpacked s) 0 0 requests)) (micro_refused test s mem)

    pub call_ends_as_tested : (run program mem s requests).answer.end ≡ micro_test (length mem) program s requests
    unfolding run test by_test
    call_ends_as_tested = ends (is_done test) refl
      where
        ends : (b : Bool) → is_done test ≡ b → (by_test b).answer.end ≡ test
        ends true t = never_refused mem (micro_unpacked s) at_first requests ∙ sym (only_done_is_done test t)
        ends false t = refl

    pub call_never_8 : (shown (run program mem s requests).answer.end).number ≤ 7
    call_never_8 = subst (λ (end : End). (shown end).number ≤ 7) (sym call_ends_as_tested) (at_most_7 (length mem) program s requests)

    pub call_back_in_time : is_done (micro_test (length mem) program s requests) ≡ true → n ≤ length requests
        → 1 ≤ (run program mem s requests).answer.steps.count
    unfolding run test by_test
    call_back_in_time passed h =
        subst (λ (b : Bool). 1 ≤ (by_test b).answer.steps.count) (sym passed) (back_in_time mem (micro_unpacked s) at_first requests h)
