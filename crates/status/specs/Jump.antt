-- The jump decision: JUMP_COND (section 5.2.2, pp. 91-99; table 5.8, p. 78), by the number of the destination field.
-- Table 5.4 (p. 68) calls code 13 greater or equal; the definition makes it less or equal, and decides. Assumes nothing.
use Rattle.std.specs.Prelude.{ℕ, Bool, true, not, cond, ◌||◌, eqb}
use Rattle.std.specs.Bool.{xor}
use Rattle.status.specs.declared.psw.Psw.{Psw}

unfoldable pub jump_cond : ℕ → Psw → Bool
jump_cond d p =
    cond (eqb d 0) p.c
    (cond (eqb d 1) (not p.c)
    (cond (eqb d 2) p.v
    (cond (eqb d 3) (not p.v)
    (cond (eqb d 4) p.n
    (cond (eqb d 5) (not p.n)
    (cond (eqb d 6) p.z
    (cond (eqb d 7) (not p.z)
    (cond (eqb d 8) (not p.c || p.z)
    (cond (eqb d 9) (not (not p.c || p.z))
    (cond (eqb d 10) (xor p.n p.v)
    (cond (eqb d 11) (not (xor p.n p.v))
    (cond (eqb d 12) (not (xor p.n p.v || p.z))
    (cond (eqb d 13) (xor p.n p.v || p.z)
    true)))))))))))))
