use Rattle.std.specs.Prelude.{ℕ, List, length, Option, Some, None, nat_lt, ◌==◌, ◌||◌, if◌then◌else◌}
use Rattle.byteorder.specs.Endian.{big_number}

-- the number in a value of 1 to `most` bytes, the most significant first; a value without bytes or
-- with more is no number
abbrev pub number_in : ℕ → List ℕ → Option ℕ
number_in most value = if length value == 0 || nat_lt most (length value) then None else Some (big_number (length value) value)
