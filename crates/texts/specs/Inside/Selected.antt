-- The lines of one flow in the report of some flows.
use Rattle.std.specs.Prelude.{ℕ, List, [], if◌then◌else◌}
use Rattle.flow_selection.specs.declared.selection.Selection.{Selection}
use Rattle.flow_selection.specs.Selection.{is_selected}
use Rattle.receiver.specs.declared.outcome.FlowOutcome.{FlowOutcome}
use Rattle.texts.specs.Report.{flow_lines}

-- all of them where the flow is selected, and else none
abbrev pub selected_flow_lines : Selection → ℕ → FlowOutcome → List ℕ
selected_flow_lines flows k flow = if is_selected flows k then flow_lines k flow else []
