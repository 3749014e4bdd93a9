-- Theorems over the definitions of specs/, a file each.
pub mod AnsweredTexts
pub mod RecordCases
pub mod InFours
pub mod ExactlyWhen
pub mod WrittenDigits
pub mod WrittenLines
pub mod WrittenRecords
pub mod RoundTrip
pub mod ReadBack
pub mod AsLent
pub mod StoredWords
