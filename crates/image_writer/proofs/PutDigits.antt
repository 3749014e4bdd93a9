-- The digits of a record as they are stored one byte after the other, and the line that they make.
use Prim.Native.Nat.{ℕ, ◌+◌, ◌-◌, ◌/◌, ◌%◌, ◌<◌, ◌≤◌}
use native.Mathlib.Nat.{zero-add}
use native.Mathlib.Omega.{arith}
use mathlib.Core.Path.{◌≡◌, refl, ◌∙◌}
use mathlib.Core.List.{List, [], ◌∷◌}
use lib.ListN.{length, get_or, drop, set, replicate, drop_of_length-le}
use lib.Seq.{sets}
use Rattle.std.specs.List.{fold}
use Rattle.image_meaning.specs.Digits.{digit, hex, sum_of}
use Rattle.image_meaning.specs.Writing.{checksum, data_bytes, data_line}

pub all_put : (bytes : List ℕ) (k : ℕ) → length bytes ≤ k → (line : List ℕ) (at : ℕ) → sets line at (hex (drop k bytes)) ≡ line
all_put bytes k all line at = rw (drop_of_length-le bytes {i = k} all)

summed_from : (sum : ℕ) (bytes : List ℕ) → sum < 256 → fold (λ (s b : ℕ). (s + b) % 256) sum bytes ≡ (sum + sum_of bytes) % 256
summed_from sum [] h = omega arith
summed_from sum (b ∷ bytes) h = summed_from ((sum + b) % 256) bytes (omega arith) ∙ omega arith

pub all_summed : (bytes : List ℕ) → fold (λ (s b : ℕ). (s + b) % 256) 0 bytes ≡ sum_of bytes % 256
all_summed bytes = summed_from 0 bytes (omega arith) ∙ rw zero-add

pub line_made : (address w x y z : ℕ) →
    set (set (sets (set (replicate 44 10) 0 58) 1 (hex (data_bytes address w x y z))) 41
    (digit (checksum (sum_of (data_bytes address w x y z)) / 16))) 42 (digit (checksum (sum_of (data_bytes address w x y z)) % 16))
    ≡ data_line address w x y z
line_made address w x y z = refl

pub line_whole : (address w x y z : ℕ) {bytes line last : List ℕ} {sum : ℕ} → bytes ≡ data_bytes address w x y z →
    line ≡ sets (set (replicate 44 10) 0 58) 1 (hex bytes) → sum ≡ sum_of bytes % 256 → last ≡ hex ((0 + (256 - sum)) % 256 ∷ []) →
    set (set line 41 (get_or last 0 0)) 42 (get_or last 1 0) ≡ data_line address w x y z
unfolding checksum
line_whole address w x y z e f g h = rw (h, f, g, e, zero-add) (line_made address w x y z)
