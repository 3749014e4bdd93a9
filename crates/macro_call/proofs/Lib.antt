-- Theorems over the definitions of specs/, a file each.
pub mod SevenWords
pub mod StepsCases
pub mod AsLent
