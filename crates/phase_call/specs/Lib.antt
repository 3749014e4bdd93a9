-- avm_phase, as include/schoonleech.h declares it.
pub mod Phase
