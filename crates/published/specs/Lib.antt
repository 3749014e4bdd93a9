-- The published microprogram. A reader starts with Assembler and Listing, with section 5.2.4 (pp. 118-126) beside them; Clocks says what its
-- returns to fetch are compared with.
pub mod Assembler
pub mod Listing
pub mod Clocks
