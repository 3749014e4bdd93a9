-- Theorems over the definitions of specs/, a file each; phase_level's functions are proved with them.
pub mod TestsInOrder
pub mod PhaseCalls
pub mod OnlyPhaseOneListens
pub mod LoadedInTime
