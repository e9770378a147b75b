use Rattle.text_lines.proofs.PutTexts.{puts-then}
use Rattle.capture_summary.proofs.summary_text.put_channel.Goals as goal

pub returns : goal.returns
returns g c = puts-then g.O.PutText.after c.put_channel_line.ensures c.put_all_refusals.ensures
