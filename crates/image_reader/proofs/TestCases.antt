-- The tests of one line, case by case.
use Prim.Native.Nat.{ℕ}
use mathlib.Core.Path.{◌≡◌}
use mathlib.Core.Bool.{true, not, ◌&&◌}
use lib.Dec.{eqb}
use borrow.Author.Tests.{eq-eqb, ne_eqb}
use Rattle.words.proofs.Cases.{turned}
use Rattle.std.specs.Prelude.{Option, Err}
use Rattle.answers.specs.declared.Refusal.TheVariants.{LineSum, RecordType, Placement}
use Rattle.image_meaning.specs.declared.Record.{Record}
use Rattle.image_meaning.specs.Records.{saying}
use Rattle.image_meaning.specs.Reading.{data_kind, end_kind, tested}

module _ (m number end : ℕ) {said : Option Record} {count address kind sum : ℕ} (e : said ≡ saying count address kind sum) where
  pub sum_wrong : (sum ≡ 0 → ⊥) → tested m number end said ≡ Err (LineSum number)
  unfolding tested
  sum_wrong h = rw (e, ne_eqb sum 0 h)

  module _ (s : sum ≡ 0) where
    module _ (no_data : kind ≡ data_kind → ⊥) where
      pub other_kind : (kind ≡ end_kind → ⊥) → tested m number end said ≡ Err (RecordType number)
      unfolding tested
      other_kind h = rw (e, eq-eqb sum 0 s, ne_eqb kind data_kind no_data, ne_eqb kind end_kind h)

      module _ (ends : kind ≡ end_kind) where
        pub end_misplaced : not (eqb count 0 && eqb address 0) ≡ true → tested m number end said ≡ Err (Placement number)
        unfolding tested
        end_misplaced h =
            rw (e, eq-eqb sum 0 s, ne_eqb kind data_kind no_data, eq-eqb kind end_kind ends, turned (eqb count 0 && eqb address 0) h)
