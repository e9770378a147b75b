use Rattle.std.proofs.Common.{take}
use Rattle.std.specs.Prelude.{flat_map}
use Rattle.text_lines.specs.Putting.{Puts}
use Rattle.capture_summary.specs.SummaryText.{channel_text}
use Rattle.capture_summary.proofs.summary_text.put_all_channels.Given as goal

abbrev pub invariant-loop-channel : goal.invariant-loop-channel
invariant-loop-channel g l = Puts g.O.PutText.after l.fn.out (flat_map channel_text (take l.channel-index l.channels)) l.out
