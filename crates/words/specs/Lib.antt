-- What AVM-1 does with 32-bit words. A reader starts with Words; the others stand on it.
pub mod Words
pub mod Shifter
pub mod Fields
pub mod Registers
pub mod Lengths
