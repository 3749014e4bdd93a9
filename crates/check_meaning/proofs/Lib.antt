-- Theorems over the definitions of specs/, a file each.
pub mod Sets
pub mod PossibleNexts
pub mod NextOfSet
pub mod OneMicrocycle
pub mod Standing
pub mod ReachedEarly
pub mod LowestLeaving
pub mod WalksGoOn
pub mod Verdicts
pub mod OneAnswerFits
pub mod ExactlyWhen
pub mod BackInTime
pub mod PublishedAccepted
pub mod WorkedExamples
