-- The program status word and the jump decision that reads it.
pub mod Psw
pub mod Jump
