-- Theorems over the definitions of specs/, a file each; the proofs of the functions stand in folders of their own.
pub mod Sums
pub mod Differences
pub mod SignedWords
pub mod OverflowBySigns
pub mod TrueResults
pub mod Outputs
pub mod AddedZero
