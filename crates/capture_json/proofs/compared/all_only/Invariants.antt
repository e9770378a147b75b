use Rattle.std.proofs.Common.{◌≡◌, map, take}
use Rattle.serde_json.specs.View.{view}
use Rattle.capture_json.specs.Compared.{only_data}
use Rattle.capture_json.proofs.compared.all_only.Given as goal

-- each one so far
abbrev pub invariant-loop-frame : goal.invariant-loop-frame
invariant-loop-frame l = map view l.values.items ≡ map (only_data l.flows) (take l.frame-index l.frames)
