-- How the pieces of a text are found. What they mean is said in the crate image_meaning.
pub mod Totals
