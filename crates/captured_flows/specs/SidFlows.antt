-- A table of flows.
use Rattle.std.specs.Prelude.{List}
use Rattle.capture_map.specs.declared.map.MapSid.{MapSid}
use Rattle.captured_flows.specs.declared.sids.SidFlows.{SidFlows}
use Rattle.captured_flows.specs.Sids.{IsTableOf}

-- it has the flows of these rows
abbrev pub HasFlowsOf : List MapSid → SidFlows → Type 0
HasFlowsOf rows sids = IsTableOf rows sids.flows.items
