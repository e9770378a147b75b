-- What contracts see of a resequencing window, and what its calls make of it.
use Rattle.std.specs.Prelude.{ℕ, ◌<◌, ◌≤◌, Option, IsSome}
use Rattle.std.specs.Ordering.{nat_cmp}
use Rattle.std.specs.FinMap as map
use Rattle.reorder.specs.Limits.{modulus, width_max}
use Rattle.reorder.specs.Number.{offset, following, number_ahead}

-- The number that is expected, how many numbers from it on may be held, and the held items by their
-- numbers. The key is the number and not its offset, so that what is held stays as it is when the
-- expected number moves on.
pub record WindowView (T : Type 0) : Type 0 where
  pub expected : ℕ
  pub width : ℕ
  pub held : map.FinMap nat_cmp T

module _ {T : Type 0} where
  -- how far a number lies ahead of the expected one
  abbrev pub offset_in : WindowView T → ℕ → ℕ
  offset_in w number = offset w.expected number

  -- the item held at a number
  abbrev pub held_at : WindowView T → ℕ → Option T
  held_at w number = map.get w.held number

  -- an item is held at the number
  abbrev pub IsHeld : WindowView T → ℕ → Type 0
  IsHeld w number = IsSome (held_at w number)

  -- what every window keeps
  pub record IsLawful (w : WindowView T) : Type 0 where
    pub expected_in_range : w.expected < modulus
    pub width_positive : 1 ≤ w.width
    pub width_in_range : w.width ≤ width_max
    pub held_in_range : (number : ℕ) → IsHeld w number → number < modulus
    pub held_within : (number : ℕ) → IsHeld w number → offset_in w number < w.width

  -- a window that holds nothing
  abbrev pub empty_window : ℕ → ℕ → WindowView T
  empty_window first width = record { expected = first; width = width; held = map.empty }

  -- the window with one more item
  abbrev pub with_item : WindowView T → ℕ → T → WindowView T
  with_item w number item = record w { held = map.insert w.held number item }

  -- the window that waits for the number after the one it waited for
  abbrev pub moved_on : WindowView T → WindowView T
  moved_on w = record w { expected = following w.expected }

  -- the same, with the item of the number that it waited for taken out
  abbrev pub next_taken : WindowView T → WindowView T
  next_taken w = record w { expected = following w.expected; held = map.remove w.held w.expected }

  -- the window that waits for the number so many after the one it waited for
  abbrev pub moved_on_by : WindowView T → ℕ → WindowView T
  moved_on_by w count = record w { expected = number_ahead w.expected count }
