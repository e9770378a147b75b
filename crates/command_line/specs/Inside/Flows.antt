-- One more range of a list.
use Rattle.std.specs.Prelude.{◌≡◌, ℕ, List, [], ◌∷◌, ◌++◌}
use Rattle.flow_selection.specs.declared.range.FlowRange.{FlowRange}
use Rattle.command_line.specs.Flows.{SaysRange}

-- the list grew by one that this text says
abbrev pub AddsRange : ℕ → List ℕ → List FlowRange → List FlowRange → Type 0
AddsRange last text ranges ranges' = (range : FlowRange) × SaysRange last text range × (ranges' ≡ ranges ++ range ∷ [])
