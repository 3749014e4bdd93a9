-- An integer as the difference of two naturals: sums, negation and order of such differences are sums and order of naturals, which
-- `omega` reads. What is said of signed words is carried over to the naturals by these laws.
use Rattle.std.proofs.Common.{◌≡◌, ℕ, zero, suc, ◌+◌, ◌-◌, ◌<◌, ◌≤◌, ltb, ◌⊎◌, ℤ, pos, negsuc, ◌+ℤ◌, ◌-ℤ◌, neg_ℤ, sym, refl, ap, ◌∙◌, inl, inr, add-zero, lt_irrefl, arith, le-ltb, lt-ltb}
use native.Mathlib.Nat.{sub-zero}
use lib.Dec.{leb-suc-zero}
use lib.IntN.{sub_ℕ, +ℤ_assoc, +ℤ_comm, neg_ℤ-+ℤ, neg_ℤ-neg_ℤ}
use lib.Signed.{lt_z}
use Rattle.words.proofs.Cases.{lt_or_le, same_test}

-- the library's own difference of two naturals
subℕ_is : (a b : ℕ) → sub_ℕ a b ≡ pos a -ℤ pos b
subℕ_is a zero = simp (leb-suc-zero, add-zero, sub-zero)
subℕ_is a (suc b) = refl

pub negate : (a b : ℕ) → neg_ℤ (pos a -ℤ pos b) ≡ pos b -ℤ pos a
negate a b = neg_ℤ-+ℤ (pos a) (neg_ℤ (pos b)) ∙ ap (λ (x : ℤ). neg_ℤ (pos a) +ℤ x) (neg_ℤ-neg_ℤ (pos b)) ∙ +ℤ_comm (neg_ℤ (pos a)) (pos b)

-- four integers, the middle two exchanged
exchange : (a b c d : ℤ) → (a +ℤ b) +ℤ (c +ℤ d) ≡ (a +ℤ c) +ℤ (b +ℤ d)
exchange a b c d =
    +ℤ_assoc a b (c +ℤ d)
    ∙ ap (λ (x : ℤ). a +ℤ x) (sym (+ℤ_assoc b c d) ∙ ap (λ (x : ℤ). x +ℤ d) (+ℤ_comm b c) ∙ +ℤ_assoc c b d)
    ∙ sym (+ℤ_assoc a c (b +ℤ d))

pub add : (a b c d : ℕ) → (pos a -ℤ pos b) +ℤ (pos c -ℤ pos d) ≡ pos (a + c) -ℤ pos (b + d)
add a b c d = exchange (pos a) (neg_ℤ (pos b)) (pos c) (neg_ℤ (pos d)) ∙ ap (λ (x : ℤ). pos (a + c) +ℤ x) (sym (neg_ℤ-+ℤ (pos b) (pos d)))

pub less : (a b c d : ℕ) → lt_z (pos a -ℤ pos b) (pos c -ℤ pos d) ≡ ltb (a + d) (c + b)
less a b c d = rw (← subℕ_is a b, ← subℕ_is c d) (split (lt_or_le a b) (lt_or_le c d))
  where
    split : (a < b) ⊎ (b ≤ a) → (c < d) ⊎ (d ≤ c) → lt_z (sub_ℕ a b) (sub_ℕ c d) ≡ ltb (a + d) (c + b)
    split (inl p) (inl q) = simp (lt-ltb a b p, lt-ltb c d q) (same_test (d - suc c) (b - suc a) (a + d) (c + b) (λ h. omega arith) (λ h. omega arith))
    split (inl p) (inr q) = simp (lt-ltb a b p, le-ltb c d q) (sym (lt-ltb (a + d) (c + b) (omega arith)))
    split (inr p) (inl q) = simp (le-ltb a b p, lt-ltb c d q) (sym (le-ltb (a + d) (c + b) (omega arith)))
    split (inr p) (inr q) = simp (le-ltb a b p, le-ltb c d q) (same_test (a - b) (c - d) (a + d) (c + b) (λ h. omega arith) (λ h. omega arith))

-- two differences are one where the crosswise sums are
pub same : (a b c d : ℕ) → a + d ≡ c + b → pos a -ℤ pos b ≡ pos c -ℤ pos d
same a b c d e = sym (subℕ_is a b) ∙ split (lt_or_le a b) (lt_or_le c d) ∙ subℕ_is c d
  where
    split : (a < b) ⊎ (b ≤ a) → (c < d) ⊎ (d ≤ c) → sub_ℕ a b ≡ sub_ℕ c d
    split (inl p) (inl q) = simp (lt-ltb a b p, lt-ltb c d q) (ap negsuc (omega arith))
    split (inl p) (inr q) = absurd (lt_irrefl a (omega arith))
    split (inr p) (inl q) = absurd (lt_irrefl a (omega arith))
    split (inr p) (inr q) = simp (le-ltb a b p, le-ltb c d q) (ap pos (omega arith))
