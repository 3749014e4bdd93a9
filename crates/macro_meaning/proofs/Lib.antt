-- Theorems over the definitions of specs/, a file each. A run's tests, its turns and its answers case by case:
pub mod RunTests
pub mod RunTurns
pub mod RunCalls
pub mod RefusedRuns
-- what laws about programs start from
pub mod StepsTaken
pub mod SumSteps
pub mod WhatIsLeft
pub mod EveryInstruction
pub mod ExampleStates
-- laws of the instruction set, for those who program it (docs/INSTRUCTIONS.md)
pub mod BitThirtyOne
pub mod LegalStates
pub mod RegisterZero
pub mod Throughout
pub mod DroppedWrites
pub mod UserMode
pub mod Stores
pub mod NoOperation
pub mod Jumps
pub mod CompareAndJump
pub mod CallThenReturn
pub mod InterruptThenReturn
pub mod StatusWord
pub mod LoadAfterStore
pub mod Bitwise
pub mod Shifts
pub mod TwoWords
pub mod Synthesized
pub mod SynthesizedAsPrinted
