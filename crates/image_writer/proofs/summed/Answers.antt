-- The fold, which the search finds, is the sum of the definitions.
use Rattle.std.proofs.Common.{rules, ◌≡◌, ◌+◌, ◌%◌, ◌∙◌, ℕ}
use Rattle.std.specs.List.{fold}
use Rattle.image_writer.proofs.PutDigits.{all_summed}
use Rattle.image_writer.proofs.summed.Goals as goal

pub returns : goal.returns
returns c =
    let folded : c.fold.result ≡ fold (λ (sum b : ℕ). (sum + b) % 256) 0 c.args.bytes.now = search rules in
    folded ∙ all_summed c.args.bytes.now
