-- Number fields.
use Rattle.std.specs.Prelude.{◌≡◌, ◌≤◌, ℕ, List}
use Rattle.std.specs.Str.Parse.{IsNumeral, digits_value}

-- the field is one or more decimal digits, and their value is this number, at most so much
pub record IsNumber (field : List ℕ) (most number : ℕ) : Type 0 where
  pub digits : IsNumeral 10 field
  pub value : digits_value 10 field ≡ number
  pub within : number ≤ most

-- the field is no number of at most so much
abbrev pub IsNoNumber : List ℕ → ℕ → Type 0
IsNoNumber field most = (number : ℕ) → ¬ IsNumber field most number

-- the field is a number in this range
abbrev pub IsNumberIn : List ℕ → ℕ → ℕ → ℕ → Type 0
IsNumberIn field least most number = IsNumber field most number × (least ≤ number)
