use Rattle.std.proofs.Common.{take}
use Rattle.text_lines.specs.Putting.{Puts}
use Rattle.capture_picture.specs.Charts.{channel_strokes}
use Rattle.capture_picture.proofs.chart.put_channel_strokes.Given as goal

abbrev pub invariant-loop-at : goal.invariant-loop-at
invariant-loop-at g l = Puts g.O.PutText.after l.fn.out (channel_strokes l.chart l.whole l.grid l.place l.channel (take l.at l.columns)) l.out
