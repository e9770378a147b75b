use Rattle.std.proofs.Common.{◌≡◌, map, take}
use Rattle.serde_json.specs.View.{view}
use Rattle.capture_json.specs.Counted.{channel_data}
use Rattle.capture_json.proofs.all_channels.Given as goal

-- each one so far
abbrev pub invariant-loop-one : goal.invariant-loop-one
invariant-loop-one l = map view l.values.items ≡ map channel_data (take l.one-index l.channels)
