pub mod Steps
pub mod HandedSteps
pub mod Refusals
pub mod Loans
