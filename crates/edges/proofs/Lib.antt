-- The one statement over the table.
pub mod ExamplesHold
