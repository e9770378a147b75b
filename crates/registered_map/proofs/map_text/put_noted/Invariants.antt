use Rattle.std.proofs.Common.{take}
use Rattle.std.specs.Prelude.{flat_map}
use Rattle.text_lines.specs.Putting.{Puts}
use Rattle.registered_map.specs.MapText.{remark_line}
use Rattle.registered_map.proofs.map_text.put_noted.Given as goal

abbrev pub invariant-loop-remark : goal.invariant-loop-remark
invariant-loop-remark g l = Puts g.O.PutText.after l.fn.out (flat_map remark_line (take l.remark-index l.noted)) l.out
