-- The lines of a text of which some are a flow's, and what is left of them where some flows are
-- selected.
use Rattle.std.specs.Prelude.{ℕ, Bool, true, Option, Some, None, List, filter, flat_map}
use Rattle.flow_selection.specs.declared.selection.Selection.{Selection}
use Rattle.flow_selection.specs.Selection.{is_selected}

-- a line, and the flow whose line it is, if it is a flow's
pub record FlowLine : Type 0 where
  pub flow : Option ℕ
  pub text : List ℕ

abbrev pub line_of_flow : ℕ → List ℕ → FlowLine
line_of_flow k text = record { flow = Some k; text = text }

abbrev pub line_of_none : List ℕ → FlowLine
line_of_none text = record { flow = None; text = text }

-- lines one behind another
abbrev pub text_of_lines : List FlowLine → List ℕ
text_of_lines lines = flat_map (λ line. line.text) lines

-- what is no flow's is left, and what is a flow's where that is selected
abbrev pub is_left : Selection → Option ℕ → Bool
is_left selected None = true
is_left selected (Some k) = is_selected selected k

-- the lines that are left, in their order: all but those of the flows that aren't selected
abbrev pub lines_left : Selection → List FlowLine → List FlowLine
lines_left selected lines = filter (λ line. is_left selected line.flow) lines

abbrev pub text_left : Selection → List FlowLine → List ℕ
text_left selected lines = text_of_lines (lines_left selected lines)
