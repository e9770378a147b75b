-- The limits that contracts name.
use Rattle.std.specs.Prelude.{ℕ}

-- an engine reads at most so many bytes
abbrev pub input_limit : ℕ
input_limit = 268435456

-- and asks a reader for at most so many bytes at once
abbrev pub piece_limit : ℕ
piece_limit = 262144
