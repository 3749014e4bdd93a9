-- Where records of data stand in memory, whatever text they were written in.
pub mod Placing
