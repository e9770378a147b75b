pub mod NothingSaid
pub mod SidsSoFar
pub mod MapSoFar
pub mod OneMapLine
pub mod OneMap
