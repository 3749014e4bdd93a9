-- avm_read and avm_write, as include/schoonleech.h declares them.
pub mod Images
