-- What comes first in a list.
use Rattle.std.specs.Prelude.{◌≡◌, List, ◌++◌}

-- the list begins with this one
abbrev pub ComesFirstIn : {X : Type 0} → List X → List X → Type 0
ComesFirstIn {X} front whole = (rest : List X) × (whole ≡ front ++ rest)
