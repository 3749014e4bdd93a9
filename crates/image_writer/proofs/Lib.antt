-- Laws over the definitions, a file each.
pub mod PutDigits
pub mod PutLines
pub mod WriteCases
