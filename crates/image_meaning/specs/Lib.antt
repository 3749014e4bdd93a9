-- Intel HEX images. A reader takes the files in this order: Digits, Lines, Records, Reading, Outcomes, Writing. Texts
-- has small texts with their answers, in Ascii.
pub mod Ascii
pub mod Digits
pub mod Lines
pub mod Records
pub mod Reading
pub mod Outcomes
pub mod Writing
pub mod Texts
