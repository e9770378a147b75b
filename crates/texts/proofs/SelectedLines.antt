-- The lines of a report that are left where some flows are selected.
use Rattle.std.proofs.Common.{◌≡◌, ℕ, Bool, true, false, List, ◌++◌, refl, sym, ap, ◌∙◌}
use Rattle.std.specs.Prelude.{map, flat_map}
use Rattle.std.specs.List.{enumerate_from}
use Rattle.flow_selection.specs.declared.selection.Selection.{Selection}
use Rattle.flow_selection.specs.declared.selection.Selection.TheVariants.{All}
use Rattle.flow_selection.specs.Selection.{is_selected}
use Rattle.flow_selection.specs.Lines.{FlowLine, line_of_none, text_of_lines, text_left}
use Rattle.flow_selection.proofs.LinesLeft.{text_left-append, text_left-each, text_left-none, text_left-selected, text_left-other, text_left-all, flat_map-same}
use Rattle.receiver.specs.declared.outcome.FlowOutcome.{FlowOutcome}
use Rattle.receiver.specs.declared.outcome.Outcome.{Outcome}
use Rattle.text_lines.specs.Putting.{numbered_texts}
use Rattle.texts.specs.Report.{flow_line, frame_line, request_line, lane_line, report_text}
use Rattle.texts.specs.Selected.{lines_of_flow, report_lines, report_of}
use Rattle.texts.specs.Inside.Selected.{selected_flow_lines}

-- the lines of a flow
left_of_flow : (selected : Selection) (k : ℕ) (flow : FlowOutcome) → text_left selected (lines_of_flow k flow) ≡ selected_flow_lines selected k flow
left_of_flow selected k flow = by_choice (is_selected selected k) refl where
  by_choice : (choice : Bool) → is_selected selected k ≡ choice → text_left selected (lines_of_flow k flow) ≡ selected_flow_lines selected k flow
  by_choice true is = rw is (ap (λ more. flow_line k flow.sfid flow.counts ++ more) (text_left-selected selected k is (frame_line k) flow.frames.items))
  by_choice false is = rw is (text_left-other selected k is (frame_line k) flow.frames.items)

-- **The report of some flows, flow by flow**
pub report_of-flows : (selected : Selection) (outcome : Outcome)
    → report_of selected outcome
    ≡ numbered_texts (selected_flow_lines selected) outcome.flows.items
    ++ flat_map (λ requests. flat_map request_line requests.items) outcome.requests
    ++ numbered_texts lane_line outcome.lanes
report_of-flows selected outcome =
    text_left-append selected (of_flows ++ of_requests) of_lanes
    ∙ ap (λ first. first ++ text_left selected of_lanes) (text_left-append selected of_flows of_requests)
    ∙ ap (λ first. first ++ text_left selected of_requests ++ text_left selected of_lanes) flows_left
    ∙ ap (λ second. numbered_texts (selected_flow_lines selected) outcome.flows.items ++ second ++ text_left selected of_lanes) requests_left
    ∙ ap (λ third. numbered_texts (selected_flow_lines selected) outcome.flows.items
    ++ flat_map (λ requests. flat_map request_line requests.items) outcome.requests ++ third) lanes_left
  where
    of_flows : List FlowLine
    of_flows = flat_map (λ one. lines_of_flow one.0 one.1) (enumerate_from 0 outcome.flows.items)

    of_requests : List FlowLine
    of_requests = flat_map (λ requests. map (λ request. line_of_none (request_line request)) requests.items) outcome.requests

    of_lanes : List FlowLine
    of_lanes = map (λ one. line_of_none (lane_line one.0 one.1)) (enumerate_from 0 outcome.lanes)

    flows_left : text_left selected of_flows ≡ numbered_texts (selected_flow_lines selected) outcome.flows.items
    flows_left =
        text_left-each selected (λ one. lines_of_flow one.0 one.1) (enumerate_from 0 outcome.flows.items)
        ∙ flat_map-same (λ one. text_left selected (lines_of_flow one.0 one.1)) (λ one. selected_flow_lines selected one.0 one.1)
        (λ one. left_of_flow selected one.0 one.1) (enumerate_from 0 outcome.flows.items)

    requests_left : text_left selected of_requests ≡ flat_map (λ requests. flat_map request_line requests.items) outcome.requests
    requests_left =
        text_left-each selected (λ requests. map (λ request. line_of_none (request_line request)) requests.items) outcome.requests
        ∙ flat_map-same (λ requests. text_left selected (map (λ request. line_of_none (request_line request)) requests.items))
        (λ requests. flat_map request_line requests.items) (λ requests. text_left-none selected request_line requests.items) outcome.requests

    lanes_left : text_left selected of_lanes ≡ numbered_texts lane_line outcome.lanes
    lanes_left = text_left-none selected (λ one. lane_line one.0 one.1) (enumerate_from 0 outcome.lanes)

-- the report of all flows is the whole one
pub report_of-all : (outcome : Outcome) → report_of All outcome ≡ report_text outcome
report_of-all outcome = report_of-flows All outcome

-- which is the text of its lines
pub report_is_its_lines : (outcome : Outcome) → report_text outcome ≡ text_of_lines (report_lines outcome)
report_is_its_lines outcome = sym (report_of-all outcome) ∙ text_left-all (report_lines outcome)
