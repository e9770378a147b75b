mod TextsFrom
pub mod BufferFinished
pub mod ElementLists
pub mod Elements
pub mod FrameParts
pub mod PlainRows
