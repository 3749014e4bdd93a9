-- Laws over the definitions, a file each.
pub mod FirstLine
pub mod LineEnds
pub mod Totals
pub mod WordsAt
