-- An ALU output is right where its value, its carry and its overflow are, and its other two flags were tested on the value.
use Rattle.std.proofs.Common.{◌≡◌, ℕ, Bool, ap, ◌∙◌}
use Rattle.alu.specs.declared.AluOutput.{AluOutput}
use Rattle.words.specs.Words.{negp, zerop}
use Rattle.alu.specs.Alu.{output}

abbrev pub made : ℕ → Bool → Bool → Bool → Bool → AluOutput
made value v n c z = record { value = value; flags = record { v = v; n = n; c = c; z = z } }

pub output_is : (value right : ℕ) (v n c z carry overflow : Bool) → value ≡ right → n ≡ negp value → z ≡ zerop value → c ≡ carry → v ≡ overflow → made value v n c z ≡ output right carry overflow
output_is value right v n c z carry overflow e en ez ec ev =
    let fn = en ∙ ap negp e in
    let fz = ez ∙ ap zerop e in
    λ i. made (e i) (ev i) (fn i) (ec i) (fz i)
