-- What follows from the definitions of specs/, a file for each thing that is said.
pub mod CallCases
pub mod RefusedAsLent
pub mod NumbersAnswered
pub mod MicrocyclesInARow
pub mod InstructionsInARow
pub mod SameAsLists
pub mod KeptByInstructions
