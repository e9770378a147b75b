use Rattle.std.specs.Prelude.{ℕ, ◌/◌, ◌%◌, Bool, true, false, List, [], ◌∷◌}

-- a number in two bytes, the more significant one first
abbrev pub two_bytes : ℕ → List ℕ
two_bytes n = n / 256 ∷ n % 256 ∷ []

-- a bit as a number
abbrev pub bit : Bool → ℕ
bit true = 1
bit false = 0
