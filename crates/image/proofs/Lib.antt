-- Laws over the definitions, a file each; the proofs of the functions stand in their folders.
pub mod Printed
