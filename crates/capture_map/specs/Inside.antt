pub mod MapSoFar
