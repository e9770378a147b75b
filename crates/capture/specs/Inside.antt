pub mod PcapParts
pub mod Stages
pub mod BlockStages
pub mod Ready
pub mod Newer
