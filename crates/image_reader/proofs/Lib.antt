-- Laws over the definitions, a file each.
pub mod TestCases
pub mod LineTurns
pub mod ReadCases
