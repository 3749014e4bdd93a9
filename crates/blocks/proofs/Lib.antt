-- What the definitions of specs/ mean, for the functions and for the levels above.
pub mod MemoryWords
