-- avm_run, as include/schoonleech.h declares it.
pub mod Runs
