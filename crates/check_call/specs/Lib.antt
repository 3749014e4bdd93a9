-- avm_check, as include/schoonleech.h declares it.
pub mod Checks
