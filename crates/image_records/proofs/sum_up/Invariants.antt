-- The sum of all bytes is that of the bytes left, added to the sum so far.
use Rattle.std.proofs.Common.{◌≡◌, ◌+◌, ◌*◌, ◌-◌, drop}
use Rattle.image_meaning.specs.Digits.{bytes_of}
use Rattle.image_records.proofs.Totals.{total_from}
use Rattle.image_records.proofs.sum_up.Given as goal

abbrev pub invariant-loop-k : goal.invariant-loop-k
invariant-loop-k l =
    total_from 0 (bytes_of (l.count + 5) (drop 1 l.line)) ≡ total_from l.sum (bytes_of (l.k-end - l.k) (drop (1 + 2 * l.k) l.line))
