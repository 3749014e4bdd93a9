-- Each line is copied to its place, and the end record's behind the last.
use Rattle.std.proofs.Common.{◌≡◌, ◌+◌, ◌*◌, ◌/◌, ◌≤◌, length, sym, ◌∙◌, ap, arith, slice_index_or, take, drop, [], List, ℕ}
use Rattle.std.proofs.lemmas.List.Edits.{sets}
use Rattle.image_writer.proofs.PutLines.{copied, four_at, words_put, end_put, end_line_is}
use Rattle.image_writer.proofs.put_text.Goals as goal

pub loop-i-preserved : goal.loop-i-preserved
loop-i-preserved c =
    let memory = c.args.memory.now in
    let i = c.loop-i.i in
    let many : length c.as_chunks.result.0.now ≡ length memory / 4 = c.as_chunks.ensures.front_len in
    let inside : 4 * i + 4 ≤ length memory = omega arith in
    let four : slice_index_or c.as_chunks.result.0.now i [] ≡ take 4 (drop (4 * i) memory) =
    ap (λ (fours : List (List ℕ)). slice_index_or fours i []) c.as_chunks.ensures.front
    ∙ four_at i (length memory / 4) memory (omega arith) in
    let line = c.data_line-line.ensures in
    let long : length c.data_line-line.result ≡ 44 = ap length line in
    c.loop-i.invariant
    ∙ words_put memory c.loop-i.room i inside four line
    (copied c.loop-i.room c.data_line-line.result (44 * i) _ c.copy_from_slice.ensures.after (omega arith) (omega arith))

pub returns : goal.returns
returns c =
    let memory = c.args.memory.now in
    let fours = length c.as_chunks.result.0.now in
    let many : fours ≡ length memory / 4 = c.as_chunks.ensures.front_len in
    let all : c.loop-i.i ≡ fours = omega arith in
    let left = rw all at c.loop-i.invariant in
    let there = c.copy_from_slice-2.ensures.after in
    sym
    (left
    ∙ end_put memory c.loop-i.room fours (omega arith)
    (copied c.loop-i.room _ (44 * fours) _ there (omega arith) (omega arith) ∙ ap (sets c.loop-i.room (44 * fours)) (sym end_line_is)))
