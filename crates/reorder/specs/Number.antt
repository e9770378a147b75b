-- Segment sequence numbers, which run from 0 to 8191 and then begin again.
use Rattle.std.specs.Prelude.{ℕ, ◌+◌, ◌-◌, ◌%◌}
use Rattle.reorder.specs.Limits.{modulus}

-- how far a number lies ahead of the expected one, going up and round; 0 is the expected one itself
abbrev pub offset : ℕ → ℕ → ℕ
offset expected number = (number + modulus - expected) % modulus

-- the number after this one
abbrev pub following : ℕ → ℕ
following number = (number + 1) % modulus

-- the number that lies so far ahead of the expected one
abbrev pub number_ahead : ℕ → ℕ → ℕ
number_ahead expected offset = (expected + offset) % modulus
