-- What a microword says, where the sequencer goes, and what is tested of a lent microprogram. A reader starts with Microword.
pub mod Microword
pub mod Codes
pub mod Sequencer
pub mod ControlStore
