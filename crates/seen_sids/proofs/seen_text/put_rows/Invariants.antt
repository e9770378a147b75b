use Rattle.std.proofs.Common.{take}
use Rattle.text_lines.specs.Putting.{Puts}
use Rattle.seen_sids.specs.SeenText.{rows_text}
use Rattle.seen_sids.proofs.seen_text.put_rows.Given as goal

abbrev pub invariant-loop-place : goal.invariant-loop-place
invariant-loop-place g l = Puts g.O.PutText.after l.fn.out (rows_text (take l.place l.rows)) l.out
