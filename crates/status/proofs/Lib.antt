-- Theorems over the definitions of specs/, a file each; the proofs of the functions stand in the folders of their modules.
pub mod PswNumbers
pub mod PswRule
pub mod Comparisons
