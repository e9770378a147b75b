pub mod LinesLeft
