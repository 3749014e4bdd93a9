-- What the image program makes of its input.
pub mod Image
