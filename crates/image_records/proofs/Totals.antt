-- The turns of a loop that sums up the bytes of a record.
use Prim.Native.Nat.{ℕ, suc, ◌+◌, ◌-◌, ◌*◌, ◌%◌, ◌<◌, ◌≤◌}
use native.Mathlib.Nat.{zero-add}
use native.Mathlib.Omega.{arith}
use mathlib.Core.Path.{◌≡◌, sym, ap, ◌∙◌}
use mathlib.Core.Bool.{cond}
use mathlib.Core.List.{List, ◌∷◌}
use lib.ListN.{drop}
use lib.Seq.{drop-drop}
use borrow.Author.Tests.{lt-ltb, le-ltb}
use Rattle.std.specs.Prelude.{Option, Some, None}
use Rattle.image_meaning.specs.Digits.{byte_of, bytes_of, all_bytes, sum_of}
use Rattle.image_records.specs.Totals.{total_of}

-- the sum of bytes, added to what was summed before
abbrev pub total_from : ℕ → List ℕ → Option ℕ
total_from sum bytes = cond (all_bytes bytes) (Some ((sum + sum_of bytes) % 256)) None

pub from_the_start : (bytes : List ℕ) → total_of bytes ≡ total_from 0 bytes
unfolding total_of
from_the_start bytes = rw zero-add

module _ (line : List ℕ) (k end : ℕ) (more : k < end) {b : ℕ} (e : b ≡ byte_of (drop (1 + 2 * k) line)) where
  first_and_rest : bytes_of (end - k) (drop (1 + 2 * k) line) ≡ b ∷ bytes_of (end - (k + 1)) (drop (1 + 2 * (k + 1)) line)
  first_and_rest =
      ap (λ (n : ℕ). bytes_of n (drop (1 + 2 * k) line)) one_more
      ∙ ap (λ (x : ℕ). x ∷ bytes_of (end - (k + 1)) (drop 2 (drop (1 + 2 * k) line))) (sym e)
      ∙ ap (λ (t : List ℕ). b ∷ bytes_of (end - (k + 1)) t) (drop-drop 2 (1 + 2 * k) line)
      ∙ ap (λ (n : ℕ). b ∷ bytes_of (end - (k + 1)) (drop n line)) two_on
    where
      one_more : end - k ≡ suc (end - (k + 1))
      one_more = omega arith

      two_on : 1 + 2 * k + 2 ≡ 1 + 2 * (k + 1)
      two_on = omega arith

  pub no_byte : (sum : ℕ) → 255 < b → total_from sum (bytes_of (end - k) (drop (1 + 2 * k) line)) ≡ None
  no_byte sum h = rw (first_and_rest, le-ltb b 256 h)

  pub one_added : (sum : ℕ) → b ≤ 255 →
      total_from sum (bytes_of (end - k) (drop (1 + 2 * k) line))
      ≡ total_from ((sum + b) % 256) (bytes_of (end - (k + 1)) (drop (1 + 2 * (k + 1)) line))
  one_added sum h =
      rw (first_and_rest, lt-ltb b 256 (omega arith))
      (ap (λ (n : ℕ). cond (all_bytes (bytes_of (end - (k + 1)) (drop (1 + 2 * (k + 1)) line))) (Some n) None)
      (same (sum_of (bytes_of (end - (k + 1)) (drop (1 + 2 * (k + 1)) line)))))
    where
      same : (rest : ℕ) → (sum + (b + rest)) % 256 ≡ ((sum + b) % 256 + rest) % 256
      same rest = omega arith

pub all_added : (sum left : ℕ) (t : List ℕ) → left ≡ 0 → sum < 256 → total_from sum (bytes_of left t) ≡ Some sum
all_added sum left t e h = rw e (ap Some (omega arith))
