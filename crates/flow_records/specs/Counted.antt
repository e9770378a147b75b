-- How far a count goes.
use Rattle.std.specs.Prelude.{ℕ, min}

-- a count of so many: it stays at its greatest value, 2^64 - 1
abbrev pub counted : ℕ → ℕ
counted n = min n 18446744073709551615
