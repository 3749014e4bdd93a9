-- The phase level (section 5.2.3, from p. 110). A reader starts with Phases; Machine, Tests and Call are how a caller meets them.
pub mod Phases
pub mod Machine
pub mod Tests
pub mod Call
