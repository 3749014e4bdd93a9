-- The program status word: six bits (table 5.2, p. 65), their number, and the rule by which they change (PSW_SPEC, section 5.2.2,
-- pp. 91-99). A number's other bits are dropped. Assumes nothing.
use Rattle.std.specs.Prelude.{ℕ, ◌+◌, ◌*◌, ◌^◌, Bool, true, false, cond, ◌&&◌}
use mir.Val.{bool_byte as num}
use Rattle.status.specs.declared.psw.Psw.{Psw}
use Rattle.status.specs.declared.psw.Change.{Change}
use Rattle.status.specs.declared.psw.PswLines.{PswLines}
use Rattle.words.specs.Words.{bit}

-- `mk_psw` (section 5.2.1, pp. 87-91): the six bits as a word
unfoldable pub mk_psw : Psw → ℕ
mk_psw p = num p.sm * 2 ^ 5 + num p.ie * 2 ^ 4 + num p.v * 2 ^ 3 + num p.n * 2 ^ 2 + num p.c * 2 + num p.z

-- the six selectors `get_sm`, `get_ie`, `get_vf`, `get_nf`, `get_cf`, `get_zf` (section 5.2.1)
unfoldable pub get_psw : ℕ → Psw
get_psw w = record { sm = bit w 5; ie = bit w 4; v = bit w 3; n = bit w 2; c = bit w 1; z = bit w 0 }

-- a bit with a set and a clear line: set is looked at first
abbrev pub changed : Change → Bool → Bool
changed change old = cond change.set true (cond change.clear false old)

-- each bit by its lines: sm and ie set, cleared or kept, the four flags loaded or kept
unfoldable pub clocked : PswLines → Psw → Psw
clocked lines p =
    record {
      sm = changed lines.sm p.sm;
      ie = changed lines.ie p.ie;
      v = cond lines.load.v lines.flags.v p.v;
      n = cond lines.load.n lines.flags.n p.n;
      c = cond lines.load.c lines.flags.c p.c;
      z = cond lines.load.z lines.flags.z p.z;
    }

-- a whole word counts only with sm already set; failing that the single bits count, with the clock line high
unfoldable pub next_psw : PswLines → ℕ → Psw → Psw
next_psw lines word p = cond (lines.set && p.sm) (get_psw word) (cond lines.clock (clocked lines p) p)
