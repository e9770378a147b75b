-- How the ring of places stands for what contracts see of a window.
use Rattle.std.specs.Prelude.{◌≡◌, ℕ, ◌<◌, List, [], ◌∷◌, length, slice_index_or, Option, None, Some}
use Rattle.std.specs.Ordering.{nat_cmp}
use Rattle.std.specs.FinMap as map
use Rattle.reorder.specs.Limits.{modulus}
use Rattle.reorder.specs.Number.{following}
use Rattle.reorder.specs.View.{WindowView, offset_in, held_at, IsHeld, IsLawful}

module _ {T : Type 0} where
  -- the item at the place so far from the front, if there is one
  abbrev pub item_at : List (Option T) → ℕ → Option T
  item_at places offset = slice_index_or places offset None

  -- The ring of places and the map: there are as many places as the window is wide, and a number's
  -- item is at the place as far from the front as the number lies ahead of the expected one.
  pub record IsLaidOut (places : List (Option T)) (w : WindowView T) : Type 0 where
    pub wide : length places ≡ w.width
    pub items : (number : ℕ) → number < modulus
        → held_at w number ≡ item_at places (offset_in w number)
    pub in_range : (number : ℕ) → IsHeld w number → number < modulus

  -- the items at the places, of which the first is the given number's
  unfoldable pub items_from : ℕ → List (Option T) → map.FinMap nat_cmp T
  items_from number [] = map.empty
  items_from number (None ∷ places) = items_from (following number) places
  items_from number (Some item ∷ places) =
      map.insert (items_from (following number) places) number item

  -- the one window that is laid out so and waits for this number
  abbrev pub seen : ℕ → List (Option T) → WindowView T
  seen expected places =
      record { expected = expected; width = length places; held = items_from expected places }

  -- what the fields of a window keep: its ranges, and the count
  pub record IsKept (expected count : ℕ) (places : List (Option T)) : Type 0 where
    pub lawful : IsLawful (seen expected places)
    pub counted : count ≡ map.len (seen expected places).held
