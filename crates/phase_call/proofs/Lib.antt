-- Theorems over the definitions of specs/, a file each; the proofs of the functions stand in their folders.
pub mod PhaseCases
pub mod AsLent
