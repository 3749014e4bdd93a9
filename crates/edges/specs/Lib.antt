-- The scope's examples at the edges that are marked as proved.
pub mod Table
