-- The macro level (sections 5.1.1.3, from p. 68, and 5.2.6, from p. 130). A reader starts with Effects and Instructions, with the register
-- transfers of pp. 68-75 beside them, then reads Machine, Step and Run.
-- Programs has the words in which laws about programs are said.
pub mod Effects
pub mod Instructions
pub mod Machine
pub mod Step
pub mod Run
pub mod Programs
pub mod Relations
