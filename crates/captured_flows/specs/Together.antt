-- All flows of a capture.
use Rattle.std.specs.Prelude.{◌≡◌, ℕ, Some, is_some, List, map, slice_get, slice_set}
use Rattle.capture_map.specs.declared.map.MapFlow.{MapFlow}
use Rattle.bonded_flows.specs.Table.{TableSetup}
use Rattle.captured_flows.specs.Acts.{Act}
use Rattle.capture_rules.specs.declared.arrival.Arrival.{Arrival}
use Rattle.captured_flows.specs.declared.sound_burst.SoundBurst.{SoundBurst}
use Rattle.captured_flows.specs.declared.waits.Waits.{Waits}
use Rattle.captured_flows.specs.declared.flow_bursts.CapturedFlow.{CapturedFlow}
use Rattle.captured_flows.specs.Flow.{FlowView, flow_begun, Comes, EndsWaiting}
use Rattle.captured_flows.specs.Seen.{flow_seen, HasWaits}

abbrev pub views_of : List CapturedFlow → List FlowView
views_of flows = map flow_seen flows

-- all their segments are held so long
abbrev pub HaveWaits : Waits → List CapturedFlow → Type 0
HaveWaits waits flows = (k : ℕ) (flow : CapturedFlow) → slice_get flows k ≡ Some flow → HasWaits waits flow

-- a burst comes to flow k of these
pub record ComesAt (waits : Waits) (k : ℕ) (one : Arrival SoundBurst) (flows : List FlowView) (made : TableSetup) (handed more : List Act) (flows' : List FlowView) : Type 0 where
  pub flow : FlowView
  pub stands : slice_get flows k ≡ Some flow
  pub flow' : FlowView
  pub comes : Comes made waits.wait k one flow handed more flow'
  pub others : flows' ≡ slice_set flows k flow'

-- nothing more comes to it
pub record EndsAt (waits : Waits) (k : ℕ) (flows : List FlowView) (made : TableSetup) (handed more : List Act) (flows' : List FlowView) : Type 0 where
  pub flow : FlowView
  pub stands : slice_get flows k ≡ Some flow
  pub flow' : FlowView
  pub ends : EndsWaiting made waits.wait k flow handed more flow'
  pub others : flows' ≡ slice_set flows k flow'

-- a flow of a map, of which nothing came yet
abbrev pub view_begun : Waits → MapFlow → FlowView
view_begun waits flow = flow_begun flow.window (is_some flow.first) waits.reorder waits.wait
