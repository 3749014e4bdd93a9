-- The micro level (section 5.2.5, from p. 126). A reader needs Machine, Microcycle and Run; Performing is how the code goes about a
-- microcycle.
pub mod Machine
pub mod Microcycle
pub mod Performing
pub mod Run
