-- What is seen of a flow whose bursts wait.
use Rattle.std.specs.Prelude.{◌≡◌}
use Rattle.capture_rules.specs.Waiting.{order_seen}
use Rattle.capture_rules.specs.Begin.{beginning_seen}
use Rattle.capture_rules.specs.Held.{held_by, wait_of}
use Rattle.captured_flows.specs.declared.waits.Waits.{Waits}
use Rattle.captured_flows.specs.declared.flow_bursts.CapturedFlow.{CapturedFlow}
use Rattle.captured_flows.specs.Flow.{FlowView}

abbrev pub flow_seen : CapturedFlow → FlowView
flow_seen flow = record { window = flow.window; order = order_seen flow.order; beginning = beginning_seen flow.beginning; held = held_by flow.held }

-- how long its segments are held, and its window's width, stay
pub record KeepsWaits (old new : CapturedFlow) : Type 0 where
  pub window : new.window ≡ old.window
  pub wait : wait_of new.held ≡ wait_of old.held

-- its segments are held so long
pub record HasWaits (waits : Waits) (flow : CapturedFlow) : Type 0 where
  pub wait : wait_of flow.held ≡ waits.wait
