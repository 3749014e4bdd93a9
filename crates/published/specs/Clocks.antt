-- The clocks of the three levels: what the macro level sees of the micro level, which requests the fetch microcycles see, how many
-- microcycles a step takes on the published microprogram, and phases, four for each request. Assumes nothing.
use Rattle.std.specs.Prelude.{ℕ, suc, cond, ◌||◌, List, [], ◌∷◌, eqb}
use mir.Val.{bool_byte as num}
use Rattle.blocks.specs.Memory.{fetch, applied}
use Rattle.phase_meaning.specs.Machine.{PhaseMachine}
use Rattle.phase_meaning.specs.Phases.{interrupt}
use Rattle.phase_meaning.specs.Call.{phase_done, stores}
use Rattle.micro_meaning.specs.declared.MicroMachine.{MicroMachine}
use Rattle.micro_meaning.specs.Microcycle.{microcycle, micro_store}
use Rattle.micro_meaning.specs.declared.MicroState.{MicroState}
use Rattle.micro_meaning.specs.Run.{at_fetch}
use Rattle.macro_meaning.specs.Instructions.{eint_key}
use Rattle.macro_meaning.specs.Machine.{MacroState, MacroMachine}
use Rattle.macro_meaning.specs.Step.{Macro, selected}
use Rattle.macro_meaning.specs.Run.{steps}

-- what the macro level sees of a micro state (`Micro_Substate`, pp. 130-137)
abbrev pub macro_machine : MicroMachine → MacroMachine
macro_machine s = record { registers = s.registers; psw = s.psw; pc = s.pc; ivec = s.ivec }

-- .. of the state as a caller lends it
abbrev pub macro_seen : MicroState → MacroState
macro_seen s = record { registers = s.registers; psw = s.psw; pc = s.pc; ivec = s.ivec }

-- .. and of memory beside it
abbrev pub shows : List ℕ → MicroMachine → Macro
shows mem s = record { machine = macro_machine s; memory = mem }

-- the interrupt line of a microcycle's request as a step's request byte
abbrev pub line : ℕ → ℕ
line request = num (interrupt request)

-- steps from a machine with its memory, one for each byte
abbrev pub steps_of : Macro → List ℕ → Macro
steps_of x requests = steps x.memory x.machine requests

-- the entry of the step that a state at fetch takes
abbrev pub key : List ℕ → MicroMachine → ℕ → ℕ
key mem s request = selected (interrupt request) s.psw (fetch mem s.pc)

-- of the requests of a run, those of the microcycles that begin at fetch
unfoldable pub heard : List ℕ → List ℕ → MicroMachine → List ℕ → List ℕ
heard program mem s [] = []
heard program mem s (request ∷ rest) =
    let later = heard program (applied (micro_store program s) mem) (microcycle program mem s request) rest in
    cond (at_fetch s) (line request ∷ later) later

-- microcycles of an opcode's own, after FETCH, ISSUE and DECODE: CALL 4, INT 4, RTI 3, LD 3, ST 3, RTN 3, LDI 3, STI 3, every other 1
unfoldable pub own_cycles : ℕ → ℕ
own_cycles key =
    cond (eqb key 1 || eqb key 2) 4
    (cond (eqb key 3 || eqb key 6 || eqb key 7 || eqb key 11 || eqb key 14 || eqb key 15) 3
    1)

-- microcycles of a step: FETCH and four for the interrupt step, else FETCH, ISSUE, DECODE and its own
unfoldable pub cycles : ℕ → ℕ
cycles key = cond (eqb key eint_key) 5 (suc (suc (suc (own_cycles key))))

-- a machine at the phase level with its memory
pub record Phased : Type 0 where
  pub machine : PhaseMachine
  pub memory : List ℕ

-- one phase
abbrev pub phased : List ℕ → Phased → ℕ → Phased
phased program x request =
    record { machine = phase_done program x.memory x.machine request; memory = applied (stores x.machine) x.memory }

-- four phases for each request, the same at all four
unfoldable pub phases : List ℕ → Phased → List ℕ → Phased
phases program x [] = x
phases program x (request ∷ rest) =
    phases program (phased program (phased program (phased program (phased program x request) request) request) request) rest
