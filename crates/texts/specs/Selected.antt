-- The texts of some flows: the lines of the whole ones but those of flows that aren't selected.
use Rattle.std.specs.Prelude.{◌≡◌, ℕ, Bool, List, ◌∷◌, ◌++◌, map, flat_map}
use Rattle.std.specs.List.{enumerate_from}
use Rattle.flow_selection.specs.declared.selection.Selection.{Selection}
use Rattle.flow_selection.specs.Lines.{FlowLine, line_of_flow, line_of_none, text_left}
use Rattle.consumer.specs.declared.given.Given.{Given}
use Rattle.loss_rule.specs.declared.rule.LossRule.{LossRule}
use Rattle.receiver.specs.declared.closing.Closed.{Closed}
use Rattle.receiver.specs.declared.setup.Setup.{Setup}
use Rattle.receiver.specs.declared.outcome.FlowOutcome.{FlowOutcome}
use Rattle.receiver.specs.declared.outcome.Outcome.{Outcome}
use Rattle.texts.specs.Happening.{given_line, happening_lines}
use Rattle.texts.specs.Happened.{HappenedAt}
use Rattle.texts.specs.Follow.{closed_flow, tally_line, flow_of_given, flow_of_happening}
use Rattle.texts.specs.Replay.{IsReplayedBy}
use Rattle.texts.specs.Report.{flow_line, frame_line, request_line, lane_line}

-- the lines of the flow with this index: its own, and one for each of its frames
abbrev pub lines_of_flow : ℕ → FlowOutcome → List FlowLine
lines_of_flow k flow = line_of_flow k (flow_line k flow.sfid flow.counts) ∷ map (λ frame. line_of_flow k (frame_line k frame)) flow.frames.items

-- the lines of a report: those of each flow, and of no flow those of each channel's requests and of
-- each lane
abbrev pub report_lines : Outcome → List FlowLine
report_lines outcome =
    flat_map (λ one. lines_of_flow one.0 one.1) (enumerate_from 0 outcome.flows.items)
    ++ flat_map (λ requests. map (λ request. line_of_none (request_line request)) requests.items) outcome.requests
    ++ map (λ one. line_of_none (lane_line one.0 one.1)) (enumerate_from 0 outcome.lanes)

-- **The report of some flows**: the lines of the whole one, in their order, but the `flow` and
-- `frame` lines of the other flows.
abbrev pub report_of : Selection → Outcome → List ℕ
report_of selected outcome = text_left selected (report_lines outcome)

-- the text that stands for an input by a loss rule where these flows are asked for: what is left of
-- the whole report
pub record IsReplayedOf (selected : Selection) (rule : LossRule) (input text : List ℕ) : Type 0 where
  pub whole : List ℕ
  pub replayed : IsReplayedBy rule input whole
  pub printed : text ≡ report_of selected replayed.outcome

-- the lines of a trace that is followed, with events or without: those of what happens, of what is
-- given as the receiver is closed, and of what was counted; a request, an input that came to no
-- flow and a channel are no flow's
abbrev pub followed_lines : Bool → List HappenedAt → List Given → Setup → Closed → List FlowLine
followed_lines events told rest setup closed =
    map (λ one. record { flow = flow_of_happening one.happening; text = happening_lines events one.line one.happening }) told
    ++ map (λ given. record { flow = flow_of_given given; text = given_line given }) rest
    ++ map (λ one. line_of_flow one.0 (closed_flow setup.flows.items one.0 one.1)) (enumerate_from 0 closed.flows.items)
    ++ map (λ one. line_of_none (tally_line one.0 one.1)) (enumerate_from 0 closed.lanes.items)
