-- The last value of a type, one TLV further on.
use Rattle.std.specs.Prelude.{ℕ, List, Option, Some, ◌==◌, if◌then◌else◌}
use Rattle.capture.specs.Fields.{Field}

-- that of the TLV, if it is of the type, and else the one before
abbrev pub value_with : ℕ → Field → Option (List ℕ) → Option (List ℕ)
value_with kind field last = if field.kind == kind then Some field.value else last
