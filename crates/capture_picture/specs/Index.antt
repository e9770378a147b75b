-- The index of a segment by its number.
use Rattle.std.specs.Prelude.{ℕ, ◌+◌, ◌-◌, ◌/◌, ◌%◌, nat_lt, if◌then◌else◌}
use Rattle.capture_picture.specs.Marking.{kept_within}

-- numbers are modulo this
abbrev pub numbers : ℕ
numbers = 8192

-- the index of a flow's first segment: one round of numbers lies below it
abbrev pub first_index : ℕ → ℕ
first_index number = numbers + number % numbers

-- how far a number lies ahead of that of an index
abbrev pub ahead_of : ℕ → ℕ → ℕ
ahead_of newest number = (numbers + number % numbers - newest % numbers) % numbers

-- **Of the indexes with this number the one that is nearest to the newest one**: below 4,096 a
-- number lies ahead, otherwise behind
abbrev pub nearest_index : ℕ → ℕ → ℕ
nearest_index newest number =
    if nat_lt (ahead_of newest number) (numbers / 2) then kept_within (newest + ahead_of newest number)
    else newest - (numbers - ahead_of newest number)
