use Rattle.std.proofs.Common.{take}
use Rattle.text_lines.specs.Putting.{Puts}
use Rattle.capture_picture.specs.Charts.{channel_paths}
use Rattle.capture_picture.proofs.chart.put_channel_paths.Given as goal

abbrev pub invariant-loop-place : goal.invariant-loop-place
invariant-loop-place g l = Puts g.O.PutText.after l.fn.out (channel_paths l.chart l.whole l.grid l.columns (take l.place l.channels)) l.out
