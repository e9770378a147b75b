use Rattle.std.proofs.Common.{◌≡◌, map, take}
use Rattle.std.specs.List.{enumerate_from}
use Rattle.serde_json.specs.View.{view}
use Rattle.capture_json.specs.Compared.{missing_data}
use Rattle.capture_json.proofs.compared.all_missing.Given as goal

-- each one so far
abbrev pub invariant-loop-place : goal.invariant-loop-place
invariant-loop-place l = map view l.values.items ≡ map (missing_data l.flows l.reasons) (enumerate_from 0 (take l.place l.frames))
