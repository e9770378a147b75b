-- A ring of places: which lies where, how it is turned, and how many at its front are empty.
use Rattle.std.specs.Prelude.{◌≡◌, ℕ, ◌+◌, ◌-◌, ◌<◌, ◌≤◌, List, ◌++◌, length, map, take, drop, nat_lt, if◌then◌else◌, Option, None, IsSome}
use Rattle.std.specs.List.{range_with_len}
use Rattle.circular_buffer.specs.Buffer.{Buffer}
use Rattle.reorder.specs.Limits.{width_max}
use Rattle.reorder.specs.Inside.Places.{item_at}

-- where the place so far from the first one lies, among so many of which the first lies there
abbrev pub place_from : ℕ → ℕ → ℕ → ℕ
place_from width first offset =
    (if nat_lt (first + offset) width then first + offset else first + offset - width)

-- the items of a ring that is turned so that its first ones, so many, come after the others
abbrev pub turned : {A : Type 0} → ℕ → List A → List A
turned count items = drop count items ++ take count items

module _ {T : Type 0} where
  -- so many places, from the first one on and round: those that were not reached yet are empty
  unfoldable pub from_first : ℕ → ℕ → List (Option T) → List (Option T)
  from_first width first reached =
      map (λ offset. item_at reached (place_from width first offset)) (range_with_len 0 width)

  -- what the fields of a ring keep: the first place is one of as many as a window may be wide
  pub record IsRing (first : ℕ) (reached : Buffer (Option T)) : Type 0 where
    pub first_within : first < reached.capacity
    pub reached_within : length reached.items ≤ reached.capacity
    pub width_in_range : reached.capacity ≤ width_max

  -- so many places at the front are empty, and the next one isn't: all of them, or as many as are
  -- looked at, at most
  pub record IsEmptyFront (places : List (Option T)) (most count : ℕ) : Type 0 where
    pub at_most : count ≤ most
    pub within : count ≤ length places
    pub empty : (k : ℕ) → k < count → item_at places k ≡ None
    pub next : count < most → count < length places → IsSome (item_at places count)
