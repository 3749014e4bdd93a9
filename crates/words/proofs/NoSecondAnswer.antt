-- No second answer fits: two results that a contract `result ≡ definition arguments` allows are one.
use mathlib.Core.Path.{◌≡◌, sym, ◌∙◌}

pub no_second_answer {ℓ} : {A : Type ℓ} {definition one other : A} → one ≡ definition → other ≡ definition → one ≡ other
no_second_answer e f = e ∙ sym f
