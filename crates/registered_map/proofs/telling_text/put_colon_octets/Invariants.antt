use Rattle.std.proofs.Common.{take}
use Rattle.std.specs.Prelude.{flat_map}
use Rattle.text_lines.specs.Putting.{Puts}
use Rattle.registered_map.specs.MapText.{colon_octet}
use Rattle.registered_map.proofs.telling_text.put_colon_octets.Given as goal

abbrev pub invariant-loop-octet : goal.invariant-loop-octet
invariant-loop-octet g l = Puts g.O.PutText.after l.fn.out (flat_map colon_octet (take l.octet-index l.octets)) l.out
