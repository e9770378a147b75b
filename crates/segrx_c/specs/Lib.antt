pub mod Handle
pub mod Answers
pub mod Handed
pub mod Made
pub mod Loan
