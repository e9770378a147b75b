-- The limits of a window, each in one place.
use Rattle.std.specs.Prelude.{ℕ}

-- how many numbers there are: they run from 0 to 8191 and then begin again
abbrev pub modulus : ℕ
modulus = 8192

-- how many of them lie ahead of an expected one, itself included: half of them all; the others lie
-- behind it
abbrev pub numbers_ahead : ℕ
numbers_ahead = 4096

-- the greatest width of a window: as many as lie ahead (this project's profile)
abbrev pub width_max : ℕ
width_max = numbers_ahead
