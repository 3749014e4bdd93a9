-- The 24 fields of a microword: table 5.12 (p. 119) in its order, the first field highest and the last ending at bit 0, 40 bits in all
-- (the scope's packing). Assumes nothing.
use Rattle.std.specs.Prelude.{ℕ}
use Rattle.words.specs.Words.{field, bit}
use Rattle.control_store.specs.declared.microword.Microword.{Microword}

abbrev pub fields : ℕ → Microword
fields w =
    record {
      amux = bit w 39;
      shft = field w 37 2;
      alu = field w 33 4;
      mar = bit w 32;
      mbr = bit w 31;
      pmux = bit w 30;
      srca = field w 27 3;
      srcb = field w 25 2;
      trgt = field w 22 3;
      ssm = bit w 21;
      csm = bit w 20;
      sie = bit w 19;
      cie = bit w 18;
      ldc = bit w 17;
      ldv = bit w 16;
      ldn = bit w 15;
      ldz = bit w 14;
      csrc = bit w 13;
      iack = bit w 12;
      ftch = bit w 11;
      rd = bit w 10;
      wr = bit w 9;
      cond = field w 6 3;
      addr = field w 0 6;
    }

-- bits of a microword that fields use
abbrev pub used_bits : ℕ
used_bits = 40
