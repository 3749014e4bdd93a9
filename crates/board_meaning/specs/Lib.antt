-- The bench board: what its two calls answer, and what they leave on it and in memory.
pub mod Board
