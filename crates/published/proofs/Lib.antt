-- Theorems over the definitions of specs/, a file each; the proof of the table's function stands in its folder.
pub mod ReadBack
pub mod NeverLeaves
pub mod EveryOpcode
pub mod NeverRefused
pub mod Due
pub mod OneReturn
pub mod ReturnsAreSteps
pub mod ReturnsKeepComing
pub mod PhasesMakeSteps
pub mod CallsAgree
