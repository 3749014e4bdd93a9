-- avm_steps, as include/schoonleech.h declares it.
pub mod Steps
