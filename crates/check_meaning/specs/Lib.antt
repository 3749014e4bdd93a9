-- What the checker answers. A reader starts with Walks and Meaning and needs no more: Survey is how the answer is found.
pub mod Walks
pub mod Meaning
pub mod Survey
