-- The verdict, way by way.
use Prim.Native.Nat.{ℕ}
use mathlib.Core.Path.{◌≡◌, refl}
use mathlib.Core.List.{List}
use Rattle.std.specs.Prelude.{Some, None, Ok, Err}
use Rattle.answers.specs.declared.Refusal.{Refusal}
use Rattle.answers.specs.declared.Refusal.TheVariants.{WalkLeaves, WalkNotBack}
use Rattle.control_store.specs.ControlStore.{store_test}
use Rattle.check_meaning.specs.declared.Survey.{Survey}
use Rattle.check_meaning.specs.Meaning.{Meant}
use Rattle.check_meaning.specs.Meaning.Meant.{illegal}
use Rattle.check_meaning.specs.Survey.{lowest, lowest_leaving, surveyed, judged, verdict}
use Rattle.check_meaning.proofs.Verdicts.{verdict_meant}

pub refused_first : (program : List ℕ) (e : Refusal) → store_test program ≡ Err e → Meant program (Err e)
refused_first program e h = illegal h

judgement : (program : List ℕ) → store_test program ≡ Ok tt → Meant program (judged program (surveyed program))
unfolding verdict
judgement program passed = rw is_judged at (verdict_meant program)
  where
    is_judged : verdict program ≡ judged program (surveyed program)
    is_judged = rw (passed, verdict) refl

pub can_leave : (program : List ℕ) (a : ℕ) → store_test program ≡ Ok tt → lowest_leaving program (surveyed program).seen ≡ Some a → Meant program (Err (WalkLeaves a))
unfolding judged
can_leave program a passed e = rw (e, judged) at (judgement program passed)

pub late : (program : List ℕ) (a : ℕ) → store_test program ≡ Ok tt → lowest_leaving program (surveyed program).seen ≡ None → lowest (surveyed program).standing ≡ Some a
    → Meant program (Err (WalkNotBack a))
unfolding judged
late program a passed none_leaves e = rw (none_leaves, e, judged) at (judgement program passed)

pub fine : (program : List ℕ) (s : Survey) → s ≡ surveyed program → store_test program ≡ Ok tt → lowest_leaving program s.seen ≡ None → lowest s.standing ≡ None
    → Meant program (Ok s.longest)
unfolding judged
fine program s same passed none_leaves e =
    let judgement : Meant program (judged program s) = rw same (judgement program passed) in rw (none_leaves, e, judged) at judgement
