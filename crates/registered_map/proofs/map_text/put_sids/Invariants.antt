use Rattle.std.proofs.Common.{take}
use Rattle.std.specs.Prelude.{flat_map}
use Rattle.text_lines.specs.Putting.{Puts}
use Rattle.registered_map.specs.MapText.{sid_lines}
use Rattle.registered_map.proofs.map_text.put_sids.Given as goal

abbrev pub invariant-loop-row : goal.invariant-loop-row
invariant-loop-row g l = Puts g.O.PutText.after l.fn.out (flat_map sid_lines (take l.row-index l.rows)) l.out
