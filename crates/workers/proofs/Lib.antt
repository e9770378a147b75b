pub mod GivenInParts
pub mod LaneServed
pub mod DecisionsPassed
pub mod FramesTaken
pub mod RequestsTaken
pub mod AlikeLists
pub mod RingsSettled
