-- Every example at the edges holds: each row shows what the scope says. The definitions are computed, so the proof is one `refl`.
use mathlib.Core.Path.{◌≡◌, refl}
use mathlib.Core.Bool.{xor}
use mathlib.Core.List.{map}
use Rattle.words.specs.Words.{wordn, bit, msb, negp, zerop, bnot, signed, outside}
use Rattle.words.specs.Registers.{is_sup_reg, update_reg}
use Rattle.alu.specs.Alu.{sum, sum_carry, sum_overflow, difference, difference_carry, difference_overflow, added, subtracted}
use Rattle.status.specs.Psw.{mk_psw, get_psw, clocked, next_psw}
use Rattle.status.specs.Jump.{jump_cond}
use Rattle.image_meaning.specs.Digits.{digit_value, paired}
use Rattle.edges.specs.Table.{Row, rows}

pub examples_hold : map (λ (row : Row). row.shown) rows ≡ map (λ (row : Row). row.said) rows
unfolding wordn bit msb negp zerop bnot signed outside is_sup_reg update_reg sum sum_carry sum_overflow difference difference_carry difference_overflow added subtracted mk_psw get_psw clocked next_psw jump_cond xor digit_value paired
examples_hold = refl
