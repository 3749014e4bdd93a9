-- How the answer is found: all walks are taken on together, microcycle by microcycle, and only the set of words they stand on is kept. A
-- set of addresses is a number, whose bit `a` is set where `a` is in it. Nothing here has to be believed: proofs/Verdicts.antt says that
-- what is found is what specs/Meaning.antt asks for. Assumes nothing.
use Rattle.std.specs.Prelude.{ℕ, zero, suc, ◌+◌, ◌-◌, ◌*◌, ◌/◌, ◌%◌, ◌^◌, Bool, true, false, cond, ◌||◌, ◌&&◌, List, [], ◌∷◌, eqb, leb, length, Option, Some, None, Ok, Err}
use Rattle.std.specs.Int.Bits.{bit_or}
use Rattle.std.specs.Int.Count.{count_leading_zeros, count_trailing_zeros}
use Rattle.std.specs.List.{position, enumerate_from}
use mir.Val.{bool_byte as num}
use Rattle.words.specs.Words.{bit}
use Rattle.answers.specs.declared.Microcycles.{Microcycles}
use Rattle.answers.specs.declared.Refusal.TheVariants.{WalkLeaves, WalkNotBack}
use Rattle.control_store.specs.Codes.{jop}
use Rattle.control_store.specs.Microword.{fields}
use Rattle.control_store.specs.ControlStore.{store_test}
use Rattle.control_store.specs.Sequencer.{fetch_address}
use Rattle.check_meaning.specs.declared.AddressSet.{AddressSet}
use Rattle.check_meaning.specs.declared.Survey.{Survey}
use Rattle.check_meaning.specs.Walks.{next_of}
use Rattle.check_meaning.specs.Meaning.{Checked, microcycles, refusal}

-- ---- sets of addresses
abbrev pub of_bits : ℕ → AddressSet
of_bits bits = record { bits = bits }

abbrev pub nowhere : AddressSet
nowhere = of_bits 0

abbrev pub has : AddressSet → ℕ → Bool
has set a = bit set.bits a

abbrev pub is_empty : AddressSet → Bool
is_empty set = eqb set.bits 0

-- the set of one address
unfoldable pub alone : ℕ → AddressSet
alone a = of_bits (2 ^ (a % 2 ^ 6))

unfoldable pub union : AddressSet → AddressSet → AddressSet
union x y = of_bits (bit_or x.bits y.bits)

unfoldable pub without_fetch : AddressSet → AddressSet
without_fetch set = of_bits (set.bits / 2 * 2)

abbrev pub lowest : AddressSet → Option ℕ
lowest set = cond (is_empty set) None (Some (count_trailing_zeros 64 set.bits))

-- bits of a number up to the highest that is set
abbrev pub length_of : ℕ → ℕ
length_of bits = 64 - count_leading_zeros 64 bits

-- one above the highest member
abbrev pub end : AddressSet → ℕ
end set = length_of set.bits

-- ---- the next addresses of a word
-- the next address where all that the sequencer reads outside the microword is clear, or all is set; but for `jop`, no other is possible
abbrev pub extreme : ℕ → ℕ → Bool → ℕ
extreme a w b = next_of a w (num b * 31) b b b

-- the words of the opcodes, 4 to 35
abbrev pub opcode_words : AddressSet
opcode_words = of_bits (2 ^ 36 - 2 ^ 4)

unfoldable pub next_set : ℕ → ℕ → AddressSet
next_set a w =
    cond (eqb (fields w).cond jop) opcode_words (union (alone (extreme a w false)) (alone (extreme a w true)))

-- a possible next address of `w` at `a` reaches `limit`
unfoldable pub passes : ℕ → ℕ → ℕ → Bool
passes limit a w = leb limit (extreme a w false) || leb limit (extreme a w true)

-- ---- all walks
-- with those of the word at `a` too, where a walk stands there
abbrev pub joined : AddressSet → AddressSet → ℕ → ℕ → AddressSet
joined found standing a w = cond (has standing a) (union found (next_set a w)) found

-- the next addresses of the words from `a` on that are in the set `standing`, beside those already found
unfoldable pub spread : ℕ → List ℕ → AddressSet → AddressSet → AddressSet
spread a [] standing found = found
spread a (w ∷ ws) standing found = spread (suc a) ws standing (joined found standing a w)

abbrev pub start : Survey
start = record { standing = alone fetch_address; seen = nowhere; longest = microcycles 0 }

-- one microcycle of all walks, the last of those `done`; a walk that is back stands nowhere any more
unfoldable pub advance : List ℕ → Microcycles → Survey → Survey
advance program done s =
    let next = spread 0 program s.standing nowhere in
    record {
      standing = without_fetch next;
      seen = union s.seen s.standing;
      longest = cond (has next fetch_address) done s.longest;
    }

-- so many microcycles more, or until no walk is under way
unfoldable pub survey : List ℕ → ℕ → ℕ → Survey → Survey
survey program zero done s = s
survey program (suc n) done s =
    cond (is_empty s.standing) s (survey program n (done + 1) (advance program (microcycles (done + 1)) s))

-- microcycles for which walks are taken on
abbrev pub rounds : ℕ
rounds = 64

abbrev pub surveyed : List ℕ → Survey
surveyed program = survey program rounds 0 start

-- ---- the verdict
-- the lowest of a microprogram's words that was seen and can leave, where there is one
unfoldable pub lowest_leaving : List ℕ → AddressSet → Option ℕ
lowest_leaving program seen = position (λ p. has seen p.0 && passes (length program) p.0 p.1) (enumerate_from 0 program)

unfoldable pub judged : List ℕ → Survey → Checked
judged program s =
    elim (lowest_leaving program s.seen) [
      | Some a ↦ refusal (WalkLeaves a)
      | None ↦ elim (lowest s.standing) [ Some a ↦ refusal (WalkNotBack a) | None ↦ Ok s.longest ]
    ]

unfoldable pub verdict : List ℕ → Checked
verdict program = elim (store_test program) [ Ok _ ↦ judged program (surveyed program) | Err e ↦ refusal e ]
