-- All digits stand in the line; the checksum's are the last.
use Rattle.std.proofs.Common.{◌+◌, ◌*◌, ◌≤◌, length, slice_index, sym, ◌∙◌, ap, arith}
use Rattle.image_writer.proofs.PutDigits.{all_put, line_whole}
use Rattle.image_writer.proofs.data_line.Goals as goal

pub returns : goal.returns
returns c =
    let a = c.args in
    let bytes = c.data_bytes-bytes.result in
    let e = ap length c.data_bytes-bytes.ensures in
    let all : length bytes ≤ c.loop-k.k = omega arith in
    line_whole a.address (slice_index a.words 0) (slice_index a.words 1) (slice_index a.words 2) (slice_index a.words 3)
    c.data_bytes-bytes.ensures
    (sym (c.loop-k.invariant.0 ∙ all_put bytes c.loop-k.k all c.loop-k.line (2 * c.loop-k.k + 1)))
    c.summed.ensures
    c.digits-2.ensures
