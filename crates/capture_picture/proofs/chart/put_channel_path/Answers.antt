use Rattle.text_lines.proofs.PutTexts.{puts-then}
use Rattle.capture_picture.proofs.chart.put_channel_path.Goals as goal

pub returns : goal.returns
returns g c = puts-then g.O.PutText.after (puts-then g.O.PutText.after (puts-then g.O.PutText.after (puts-then g.O.PutText.after c.put_word.ensures (rw c.colour_of.ensures at c.put.ensures)) c.put_word-2.ensures) c.put_channel_strokes.ensures) c.put_word-3.ensures
