-- The datapath's plain blocks (section 5.2.2, pp. 91-102; phase two, pp. 110-112).
pub mod Memory
pub mod Sources
