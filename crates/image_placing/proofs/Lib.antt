-- Theorems over the definitions of specs/, a file each.
pub mod EdgePlaces
pub mod PlacingCases
pub mod StandsExactly
pub mod WordsNotNamed
