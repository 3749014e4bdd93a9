-- The ALU's eleven functions.
pub mod Alu
