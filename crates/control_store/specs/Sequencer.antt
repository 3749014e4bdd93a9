-- The microprogram unit: MPC_UNIT (section 5.2.2, pp. 103-110), which gives the next address of the control store. Addresses have 6
-- bits. Assumes nothing.
use Rattle.std.specs.Prelude.{ℕ, ◌+◌, ◌%◌, ◌^◌, Bool, cond, ◌&&◌, eqb}
use Rattle.control_store.specs.Codes.{step, jmp, jop, jint, jsm}

-- `add_bt6`: the sum of a 6-bit address and a number, which has 6 bits again
unfoldable pub add_bt6 : ℕ → ℕ → ℕ
add_bt6 a n = (a + n) % 2 ^ 6

-- in the source's order: the counter, the opcode, the address field, the condition, the latched request, ie, sm; the opcode is the five
-- low bits already (`SND opc`)
unfoldable pub mpc_unit : ℕ → ℕ → ℕ → ℕ → Bool → Bool → Bool → ℕ
mpc_unit mpc opc addr code ireq ie sm =
    cond (eqb code step) (add_bt6 mpc 1)
    (cond (eqb code jmp) addr
    (cond (eqb code jop) (add_bt6 opc 4)
    (cond (eqb code jint) (cond (ireq && ie) addr (add_bt6 mpc 1))
    (cond (eqb code jsm) (cond sm addr (add_bt6 mpc 1))
    (add_bt6 mpc 1)))))

-- fetch, where every instruction begins (pp. 124-126)
abbrev pub fetch_address : ℕ
fetch_address = 0
