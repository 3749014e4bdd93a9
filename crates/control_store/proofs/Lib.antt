-- What the definitions of specs/ mean.
pub mod StoreTest
pub mod MachineTest
pub mod Conditions
pub mod SixBits
