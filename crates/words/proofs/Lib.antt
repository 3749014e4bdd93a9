-- Theorems over the definitions of specs/, a file each; the proofs of the functions stand in the folders of their modules.
pub mod Cases
pub mod FieldBounds
pub mod FlagNumbers
pub mod RegisterRule
pub mod PowersOfTwo
pub mod NoSecondAnswer
pub mod BitByBit
pub mod WordLists
