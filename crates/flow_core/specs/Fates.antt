-- What became of the segments of a flow, by their indexes.
--
-- The index of a segment is its place in its flow, counted from 0 and without bound. Its number is
-- the 13 bits in its header: the first segment's number plus the index, modulo 8192. Code sees
-- numbers. All that is said of a flow is said by indexes.
use Rattle.std.specs.Prelude.{◌≡◌, ℕ, ◌+◌, ◌%◌, ◌<◌, Option, Some, None, IsSome, List, length, slice_get}
use Rattle.std.specs.Option.{option_flatten}
use Rattle.std.specs.Ordering.{nat_cmp}
use Rattle.std.specs.FinMap as map
use Rattle.docsis_wire.specs.Limits.{sequence_modulus}
use Rattle.docsis_wire.specs.declared.segment.Segment.{Segment}

-- The indexes of which it is known what became of them: the segment of the index was kept, or the
-- index was lost, which is `None`.
abbrev pub Fates : Type 0
Fates = map.FinMap nat_cmp (Option Segment)

-- nothing came yet
abbrev pub no_fates : Fates
no_fates = map.empty

-- the segment of the index was kept, and is this one
abbrev pub IsKeptAs : Fates → ℕ → Segment → Type 0
IsKeptAs fates i segment = map.get fates i ≡ Some (Some segment)

abbrev pub IsKept : Fates → ℕ → Type 0
IsKept fates i = (segment : Segment) × IsKeptAs fates i segment

-- the index was lost, by a gap or a skip
abbrev pub IsLost : Fates → ℕ → Type 0
IsLost fates i = map.get fates i ≡ Some None

-- neither kept nor lost
abbrev pub IsOpen : Fates → ℕ → Type 0
IsOpen fates i = map.get fates i ≡ None

-- the segment that was kept of the index, if there is one
abbrev pub kept_at : Fates → ℕ → Option Segment
kept_at fates i = option_flatten (map.get fates i)

-- The expected index: the least one that is open.
pub record IsExpected (fates : Fates) (x : ℕ) : Type 0 where
  pub open_itself : IsOpen fates x
  pub settled : (i : ℕ) → i < x → IsSome (map.get fates i)

-- a segment with a greater index was kept
abbrev pub HasLaterKept : Fates → ℕ → Type 0
HasLaterKept fates i = (j : ℕ) × (i < j) × IsKept fates j

-- the number that the segment of an index has in its header
abbrev pub number_of : ℕ → ℕ → ℕ
number_of first i = (first + i) % sequence_modulus

-- what became of the indexes below n, in order: each kept segment, and the mark `None` of each loss
pub record IsSettledBelow (fates : Fates) (n : ℕ) (settled : List (Option Segment)) : Type 0 where
  pub size : length settled ≡ n
  pub each : (i : ℕ) (fate : Option Segment) → slice_get settled i ≡ Some fate → map.get fates i ≡ Some fate
