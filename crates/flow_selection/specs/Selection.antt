-- Which flows are of a selection, each by its index.
use Rattle.std.specs.Prelude.{ℕ, ◌%◌, ◌==◌, ◌&&◌, not, Bool, true}
use Rattle.flow_selection.specs.declared.shard.Shard.{Shard}
use Rattle.flow_selection.specs.declared.selection.Selection.{Selection}
use Rattle.flow_selection.specs.declared.selection.Selection.TheVariants as selected
use Rattle.flow_selection.specs.Ranges.{has_some}

-- the index of flow k leaves the remainder when divided by the count
abbrev pub is_in_shard : Shard → ℕ → Bool
is_in_shard shard k = not (shard.count == 0) && (k % shard.count == shard.remainder)

-- flow k is of the selection
abbrev pub is_selected : Selection → ℕ → Bool
is_selected selected.All k = true
is_selected (selected.Shard shard) k = is_in_shard shard k
is_selected (selected.Listed ranges) k = has_some ranges k
