use Rattle.std.proofs.Common.{take}
use Rattle.std.specs.Prelude.{flat_map}
use Rattle.text_lines.specs.Putting.{Puts}
use Rattle.capture_summary.specs.Report.{channel_lines}
use Rattle.capture_summary.proofs.report.put_all_channels.Given as goal

abbrev pub invariant-loop-channel : goal.invariant-loop-channel
invariant-loop-channel g l = Puts g.O.PutText.after l.fn.out (flat_map channel_lines (take l.channel-index l.channels)) l.out
