-- A written line is cut off as a line, and is a record of the fields it was written from, with sum 0.
use Prim.Native.Nat.{ℕ, suc, ◌+◌, ◌*◌, ◌/◌, ◌%◌, ◌<◌}
use native.Mathlib.Omega.{arith}
use mathlib.Core.Path.{◌≡◌, refl, sym, ap, ◌∙◌}
use mathlib.Core.Bool.{true, false}
use mathlib.Core.List.{List, [], ◌∷◌, ◌++◌, append_assoc}
use lib.ListN.{length, drop, length-append}
use lib.Dec.{eqb}
use borrow.Author.Tests.{ne_eqb, lt-ltb}
use Rattle.image_meaning.specs.Digits.{bytes_of, all_bytes, sum_of, digit, hex}
use Rattle.image_meaning.specs.Lines.{lf, lines_of, before_first, is_end}
use Rattle.image_meaning.specs.Records.{record_of, saying, record_bytes, count_of, address_of, kind_of}
use Rattle.image_meaning.specs.Writing.{checksum, line_of}
use Rattle.image_meaning.proofs.RecordCases.{a_record}
use Rattle.image_meaning.proofs.WrittenDigits.{digit_at_least, byte_read, bytes_read, behind_digits, all_bytes_joined}

-- ---- cut off

no_end : (v : ℕ) → eqb (digit v) lf ≡ false
no_end v = ne_eqb (digit v) lf (λ e. omega (arith, digit_at_least v))

digits_cut_off : (bs t : List ℕ) → lines_of (hex bs ++ (lf ∷ t)) ≡ (hex bs ++ (lf ∷ [])) ∷ lines_of t
digits_cut_off [] t = refl
digits_cut_off (b ∷ bs) t = rw (no_end (b / 16), no_end (b % 16), digits_cut_off bs t)

pub line_cut_off : (bytes t : List ℕ) → lines_of (line_of bytes ++ t) ≡ line_of bytes ∷ lines_of t
line_cut_off bytes t =
    let all = bytes ++ (checksum (sum_of bytes) ∷ []) in
    ap (λ (l : List ℕ). before_first 58 (lines_of l)) (append_assoc (hex all) (lf ∷ []) t)
    ∙ ap (before_first 58) (digits_cut_off all t)

-- ---- the checksum

pub checksum_lt : (s : ℕ) → checksum s < 256
unfolding checksum
checksum_lt s = omega arith

sum_joined : (front bs : List ℕ) → sum_of (front ++ bs) ≡ sum_of front + sum_of bs
sum_joined [] bs = omega arith
sum_joined (a ∷ front) bs = omega (arith, sum_joined front bs)

made_whole : (s : ℕ) → (s + (checksum s + 0)) % 256 ≡ 0
unfolding checksum
made_whole s = omega arith

pub sum_is_0 : (bytes : List ℕ) → sum_of (bytes ++ (checksum (sum_of bytes) ∷ [])) % 256 ≡ 0
sum_is_0 bytes = rw (sum_joined bytes (checksum (sum_of bytes) ∷ [])) (made_whole (sum_of bytes))

-- ---- the record

module _ (count high low kind : ℕ) (contents : List ℕ) (l : length contents ≡ count)
    (hc : count < 256) (hh : high < 256) (hl : low < 256) (hk : kind < 256) (ok : all_bytes contents ≡ true) where
  abbrev bytes : List ℕ
  bytes = count ∷ high ∷ low ∷ kind ∷ contents

  abbrev summed : List ℕ
  summed = bytes ++ (checksum (sum_of bytes) ∷ [])

  all_are : all_bytes summed ≡ true
  all_are =
      all_bytes_joined bytes (checksum (sum_of bytes) ∷ [])
      (rw (lt-ltb count 256 hc, lt-ltb high 256 hh, lt-ltb low 256 hl, lt-ltb kind 256 hk, ok))
      (rw (lt-ltb (checksum (sum_of bytes)) 256 (checksum_lt (sum_of bytes))))

  long : length summed ≡ count + 5
  long = omega (arith, length-append contents (checksum (sum_of bytes) ∷ []))

  pub count_read : count_of (line_of bytes) ≡ count
  count_read = byte_read count hc

  pub address_read : address_of (line_of bytes) ≡ 256 * high + low
  address_read = rw (byte_read high hh, byte_read low hl)

  pub kind_read : kind_of (line_of bytes) ≡ kind
  kind_read = byte_read kind hk

  all_read : record_bytes (line_of bytes) ≡ summed
  all_read =
      ap (λ (n : ℕ). bytes_of n (hex summed ++ (lf ∷ []))) (ap (λ (n : ℕ). n + 5) count_read ∙ sym long)
      ∙ bytes_read summed (lf ∷ []) all_are

  end_read : drop (11 + 2 * count_of (line_of bytes)) (line_of bytes) ≡ lf ∷ []
  end_read = ap (λ (n : ℕ). drop n (line_of bytes)) behind ∙ behind_digits summed (lf ∷ [])
    where
      behind : 11 + 2 * count_of (line_of bytes) ≡ suc (2 * length summed)
      behind = omega (arith, count_read, long)

  pub record_written : record_of (line_of bytes) ≡ saying count (256 * high + low) kind 0
  record_written =
      a_record (line_of bytes) refl (ap all_bytes all_read ∙ all_are) (ap is_end end_read)
      ∙ rw (all_read, count_read, address_read, kind_read, sum_is_0 bytes)
