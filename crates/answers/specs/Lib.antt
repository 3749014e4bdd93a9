-- How the engine's calls answer. A reader starts with Ends; Places says what the first place of a list is, Tests what every call of the
-- engine tests first.
pub mod Ends
pub mod Places
pub mod Tests
