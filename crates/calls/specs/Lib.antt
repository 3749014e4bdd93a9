-- What a C call answers; registers that it is lent as a list, and what is found after it.
pub mod Answers
pub mod Lending
