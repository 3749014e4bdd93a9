-- What a line says, case by case.
use Prim.Native.Nat.{ℕ, ◌+◌, ◌*◌, ◌%◌}
use mathlib.Core.Path.{◌≡◌}
use mathlib.Core.Bool.{true, false}
use mathlib.Core.List.{List}
use lib.Dec.{eqb}
use lib.ListN.{get_or, drop}
use Rattle.std.specs.Prelude.{None}
use Rattle.image_meaning.specs.Digits.{all_bytes, sum_of}
use Rattle.image_meaning.specs.Lines.{is_end}
use Rattle.image_meaning.specs.Records.{record_of, saying, colon, count_of, address_of, kind_of, record_bytes}

module _ (line : List ℕ) where
  pub no_colon : eqb (get_or line 0 0) colon ≡ false → record_of line ≡ None
  unfolding record_of
  no_colon h = rw h

  module _ (starts : eqb (get_or line 0 0) colon ≡ true) where
    pub no_bytes : all_bytes (record_bytes line) ≡ false → record_of line ≡ None
    unfolding record_of
    no_bytes h = rw (starts, h)

    module _ (bytes : all_bytes (record_bytes line) ≡ true) where
      pub no_end : is_end (drop (11 + 2 * count_of line) line) ≡ false → record_of line ≡ None
      unfolding record_of
      no_end h = rw (starts, bytes, h)

      pub a_record : is_end (drop (11 + 2 * count_of line) line) ≡ true →
          record_of line ≡ saying (count_of line) (address_of line) (kind_of line) (sum_of (record_bytes line) % 256)
      unfolding record_of
      a_record h = rw (starts, bytes, h)
