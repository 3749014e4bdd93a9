-- One microcycle, under the microword at MPC: the state without latches, each part's new value from the state before. It is what the micro
-- level's own definitions (FETCH, ISSUE, .., pp. 126-130) are instances of, word by word. The request is looked at where the next address
-- is chosen. A microcycle whose next address is outside is not done. Assumes nothing.
use Rattle.std.specs.Prelude.{ℕ, Bool, List, Option, leb, length}
use Rattle.words.specs.Fields.{dest}
use Rattle.status.specs.Psw.{mk_psw}
use Rattle.control_store.specs.declared.microword.Microword.{Microword}
use Rattle.control_store.specs.Microword.{fields}
use Rattle.blocks.specs.declared.memory.Store.{Store}
use Rattle.blocks.specs.Sources.{a_bus, b_bus}
use Rattle.datapath.specs.Operation.{a_input, operated}
use Rattle.datapath.specs.Results.{new_psw, new_reg, new_mpc, new_ir, new_pc, new_mbr, mar_from_pc, new_mar, new_store}
use Rattle.control_store.specs.ControlStore.{word_at}
use Rattle.phase_meaning.specs.Phases.{interrupt}
use Rattle.micro_meaning.specs.declared.MicroMachine.{MicroMachine}

-- the microword at MPC, by its fields
abbrev pub word_of : List ℕ → MicroMachine → Microword
word_of urom s = fields (word_at urom s.mpc)

-- MAR as memory is used with it
abbrev pub mar_used : List ℕ → MicroMachine → ℕ
mar_used urom s = mar_from_pc (word_of urom s) s.pc s.mar

unfoldable pub next_address : List ℕ → MicroMachine → ℕ → ℕ
next_address urom s request = new_mpc (word_of urom s) s.mpc s.ir (interrupt request) s.psw

unfoldable pub micro_store : List ℕ → MicroMachine → Option Store
micro_store urom s = new_store (word_of urom s) (mar_used urom s) s.mbr

unfoldable pub microcycle : List ℕ → List ℕ → MicroMachine → ℕ → MicroMachine
microcycle urom mem s request =
    let m = word_of urom s in
    let a = a_bus m.srca s.registers s.ir (mk_psw s.psw) s.pc in
    let b = b_bus m.srcb s.registers s.ir s.ivec in
    let mar = mar_used urom s in
    let out = operated m (a_input m s.mbr a) b s.psw.c in
    let result = out.value in
    record {
      registers = new_reg m.trgt s.psw.sm (dest s.ir) s.registers result;
      psw = new_psw m out s.psw;
      pc = new_pc m.trgt (dest s.ir) s.psw result s.pc;
      ir = new_ir m result s.ir;
      mar = new_mar m result mar;
      mbr = new_mbr mem m mar result s.mbr;
      mpc = next_address urom s request;
      ivec = s.ivec;
    }

-- the next address is outside
unfoldable pub leaves : List ℕ → MicroMachine → ℕ → Bool
leaves urom s request = leb (length urom) (next_address urom s request)
