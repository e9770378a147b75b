pub mod TraceFromSources
pub mod ExitStatuses
pub mod ObeyedWords
pub mod TraceRead
pub mod ShownWords
