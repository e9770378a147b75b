-- Which flows are of a range of indexes, or of some.
use Rattle.std.specs.Prelude.{ℕ, ◌&&◌, ◌||◌, nat_le, Bool, false, List, [], ◌∷◌}
use Rattle.flow_selection.specs.declared.range.FlowRange.{FlowRange}

-- flow k is one from the first to the last
abbrev pub is_in_range : FlowRange → ℕ → Bool
is_in_range range k = nat_le range.first k && nat_le k range.last

-- flow k is of at least one of the ranges
abbrev pub has_some : List FlowRange → ℕ → Bool
has_some [] k = false
has_some (range ∷ more) k = is_in_range range k || has_some more k
