use Rattle.std.proofs.Common.{◌≡◌, map, take}
use Rattle.captured_flows.specs.Captures.{row_of}
use Rattle.captured_flows.proofs.map_setup.rows_of.Given as goal

abbrev pub invariant-loop-sid : goal.invariant-loop-sid
invariant-loop-sid l = l.rows.items ≡ map row_of (take l.sid-index l.sids)
