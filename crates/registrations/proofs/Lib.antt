pub mod FieldsOfBytes
pub mod ToldSoFar
pub mod JoinedParts
pub mod InTurn
pub mod ShortMessages
pub mod FrameGrammar
pub mod MessageGrammar
