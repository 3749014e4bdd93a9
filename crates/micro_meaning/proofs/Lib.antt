-- Theorems over the definitions of specs/, a file each; micro_level's functions are proved with them.
pub mod FourPhases
pub mod SameMicrocycle
pub mod RunInduction
pub mod RunKeeps
pub mod RunJoins
pub mod RunTurns
pub mod RunTests
pub mod RunCalls
pub mod RunsInARow
pub mod CutBy8
pub mod TestNumbers
