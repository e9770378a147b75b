-- The items that come in order out of offers that came in any order.
use Rattle.std.specs.Prelude.{◌≡◌, ℕ, ◌+◌, ◌%◌, ◌<◌, List, [], ◌∷◌, length, ◌==◌, nat_lt, slice_get, Option, None, Some, if◌then◌else◌}

-- the number that lies so far ahead of the first one, going up and round
abbrev pub number_after : ℕ → ℕ → ℕ
number_after first index = (first + index) % 8192

module _ {T : Type 0} where
  -- the first item that is offered under the number, if there is one
  abbrev pub first_offered : ℕ → List (ℕ × T) → Option T
  first_offered number [] = None
  first_offered number (offer ∷ offers) =
      (if offer.0 == number then Some offer.1 else first_offered number offers)

  -- the item that counts at this index: the first one offered under its number, within the width
  abbrev pub item_of : ℕ → ℕ → List (ℕ × T) → ℕ → Option T
  item_of first width offers index =
      (if nat_lt index width then first_offered (number_after first index) offers else None)

  -- the items of the numbers from the first on, up to the first number that has none
  pub record IsRunOf (first width : ℕ) (offers : List (ℕ × T)) (items : List T) : Type 0 where
    pub each : (index : ℕ) → index < length items
        → slice_get items index ≡ item_of first width offers index
    pub ends : item_of first width offers (length items) ≡ None
