-- How much is kept of what is told.
use Rattle.std.specs.Prelude.{ℕ}

-- so many things that were told are kept
abbrev pub most_told : ℕ
most_told = 32768
