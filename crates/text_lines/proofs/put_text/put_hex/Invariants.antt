-- Where the digits of what is left are put, those of all bytes are put.
use Rattle.std.proofs.Common.{length}
use Rattle.hex.specs.Hex.{encode_lower}
use Rattle.text_lines.specs.Putting.{Puts}
use Rattle.text_lines.proofs.put_text.put_hex.Given as goal

abbrev pub invariant-loop-block : goal.invariant-loop-block
invariant-loop-block g l = (end : _) → Puts g.O.PutText.after l.out (encode_lower l.rest) end → Puts g.O.PutText.after l.fn.out (encode_lower l.bytes) end

abbrev pub decreases-loop-block : goal.decreases-loop-block
decreases-loop-block g l = length l.rest
