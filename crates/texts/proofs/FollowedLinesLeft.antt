-- The lines of a trace that is followed that are left where some flows are selected.
use Rattle.std.proofs.Common.{◌≡◌, ℕ, Bool, true, false, List, [], ◌∷◌, ◌++◌, refl, ap, ◌∙◌, append_assoc}
use Rattle.std.specs.Prelude.{map, flat_map, if◌then◌else◌}
use Rattle.std.specs.List.{enumerate_from}
use Rattle.consumer.specs.declared.given.Given.{Given}
use Rattle.flow_core.specs.declared.counts.FlowCounts.{FlowCounts}
use Rattle.flow_selection.specs.declared.selection.Selection.{Selection}
use Rattle.flow_selection.specs.Lines.{FlowLine, line_of_flow, line_of_none, is_left, text_left}
use Rattle.flow_selection.proofs.LinesLeft.{text_left-append, text_left-none}
use Rattle.receiver.specs.declared.closing.Closed.{Closed}
use Rattle.receiver.specs.declared.setup.Setup.{Setup}
use Rattle.text_lines.specs.Putting.{numbered_texts}
use Rattle.texts.specs.declared.follow.settings.FollowSettings.{FollowSettings}
use Rattle.texts.specs.Happening.{given_line, happening_lines}
use Rattle.texts.specs.Happened.{HappenedAt}
use Rattle.texts.specs.Follow.{closed_flow, closed_told, closed_lines, tally_line, flow_of_given, flow_of_happening, given_told, told_lines}
use Rattle.texts.specs.Selected.{followed_lines}

-- the text that is printed of a trace
abbrev pub followed_text : Selection → Bool → List HappenedAt → List Given → Setup → Closed → List ℕ
followed_text selected events told rest setup closed =
    flat_map (told_lines (record { events = events; selected = selected })) told ++ flat_map (given_told selected) rest ++ closed_lines selected setup closed

-- a line that stands before others
left_first : (selected : Selection) (line : FlowLine) (lines : List FlowLine)
    → text_left selected (line ∷ lines) ≡ (if is_left selected line.flow then line.text else []) ++ text_left selected lines
left_first selected line lines = by_choice (is_left selected line.flow) refl where
  by_choice : (choice : Bool) → is_left selected line.flow ≡ choice
      → text_left selected (line ∷ lines) ≡ (if is_left selected line.flow then line.text else []) ++ text_left selected lines
  by_choice true is = rw is refl
  by_choice false is = rw is refl

-- so of the lines of many things
left_each : {T : Type 0} (selected : Selection) (line : T → FlowLine) (items : List T)
    → text_left selected (map line items) ≡ flat_map (λ item. if is_left selected (line item).flow then (line item).text else []) items
left_each selected line [] = refl
left_each selected line (item ∷ items) =
    left_first selected (line item) (map line items)
    ∙ ap (λ more. (if is_left selected (line item).flow then (line item).text else []) ++ more) (left_each selected line items)

-- **what is printed is what is left**
pub followed_left : (selected : Selection) (events : Bool) (told : List HappenedAt) (rest : List Given) (setup : Setup) (closed : Closed)
    → text_left selected (followed_lines events told rest setup closed) ≡ followed_text selected events told rest setup closed
followed_left selected events told rest setup closed =
    text_left-append selected ((of_told ++ of_rest) ++ of_flows) of_lanes
    ∙ ap (λ first. first ++ text_left selected of_lanes) (text_left-append selected (of_told ++ of_rest) of_flows)
    ∙ ap (λ first. (first ++ text_left selected of_flows) ++ text_left selected of_lanes) (text_left-append selected of_told of_rest)
    ∙ ap (λ first. ((first ++ text_left selected of_rest) ++ text_left selected of_flows) ++ text_left selected of_lanes) (left_each selected line_of_told told)
    ∙ ap (λ second. ((flat_map (told_lines settings) told ++ second) ++ text_left selected of_flows) ++ text_left selected of_lanes) (left_each selected line_of_given rest)
    ∙ ap (λ third. (before ++ third) ++ text_left selected of_lanes) (left_each selected line_of_closed (enumerate_from 0 closed.flows.items))
    ∙ ap (λ fourth. (before ++ numbered_texts (closed_told selected setup.flows.items) closed.flows.items) ++ fourth)
    (text_left-none selected (λ one. tally_line one.0 one.1) (enumerate_from 0 closed.lanes.items))
    ∙ append_assoc before (numbered_texts (closed_told selected setup.flows.items) closed.flows.items) (numbered_texts tally_line closed.lanes.items)
  where
    settings : FollowSettings
    settings = record { events = events; selected = selected }

    before : List ℕ
    before = flat_map (told_lines settings) told ++ flat_map (given_told selected) rest

    line_of_told : HappenedAt → FlowLine
    line_of_told one = record { flow = flow_of_happening one.happening; text = happening_lines events one.line one.happening }

    line_of_given : Given → FlowLine
    line_of_given given = record { flow = flow_of_given given; text = given_line given }

    line_of_closed : ℕ × FlowCounts → FlowLine
    line_of_closed one = line_of_flow one.0 (closed_flow setup.flows.items one.0 one.1)

    of_told : List FlowLine
    of_told = map line_of_told told

    of_rest : List FlowLine
    of_rest = map line_of_given rest

    of_flows : List FlowLine
    of_flows = map line_of_closed (enumerate_from 0 closed.flows.items)

    of_lanes : List FlowLine
    of_lanes = map (λ one. line_of_none (tally_line one.0 one.1)) (enumerate_from 0 closed.lanes.items)
