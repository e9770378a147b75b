-- What comes to a flow on each channel, and what is handed in to it.
use Rattle.std.specs.Prelude.{◌≡◌, ℕ, ◌==◌, Bool, true, false, Option, Some, None, List, map, filter, filter_map, count_by, slice_get, if◌then◌else◌}
use Rattle.docsis_wire.specs.declared.segment.Segment.{Segment}
use Rattle.flow_core.specs.Events.{FlowEvent}
use Rattle.lane.specs.declared.admitted.Admitted.{Admitted}
use Rattle.lane.specs.declared.sids.SidRow.{SidRow}
use Rattle.loss_rule.specs.Rule.{Coming, on_channel, handed_in}

-- a row gives the flow a service identifier on this channel
pub record HasRow (rows : List SidRow) (flow channel : ℕ) : Type 0 where
  pub place : ℕ
  pub row : SidRow
  pub stands : slice_get rows place ≡ Some row
  pub of_flow : row.flow ≡ flow
  pub of_channel : row.channel ≡ channel

-- the segments that come on this channel, in order
abbrev pub segment_on : ℕ → Coming → Option Segment
segment_on channel (on_channel other segment) = if other == channel then Some segment else None
segment_on channel (handed_in event) = None

abbrev pub segments_on : ℕ → List Coming → List Segment
segments_on channel comings = filter_map (segment_on channel) comings

-- how many segments come, on whatever channels
abbrev pub is_segment : Coming → Bool
is_segment (on_channel channel segment) = true
is_segment (handed_in event) = false

abbrev pub segment_count : List Coming → ℕ
segment_count comings = count_by is_segment comings

-- what is handed in, in order
abbrev pub event_handed_in : Coming → Option FlowEvent
event_handed_in (on_channel channel segment) = None
event_handed_in (handed_in event) = Some event

abbrev pub events_handed_in : List Coming → List FlowEvent
events_handed_in comings = filter_map event_handed_in comings

-- of what was admitted the segments of flow k, in order
abbrev pub segments_of_flow : ℕ → List Admitted → List Segment
segments_of_flow k admitted = map (λ one. one.segment) (filter (λ one. one.flow == k) admitted)
