pub mod EntryLists
pub mod Steps
pub mod Posting
pub mod MouthTaking
pub mod Marking
pub mod CountingLeft
pub mod PassJoining
