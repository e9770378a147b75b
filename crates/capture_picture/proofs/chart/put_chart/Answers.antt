use Rattle.text_lines.proofs.PutTexts.{puts-then}
use Rattle.capture_picture.proofs.chart.put_chart.Goals as goal

pub returns : goal.returns
returns g c = rw (c.head.ensures, c.stroke_width.ensures, c.plot_width.ensures, c.frame_end.ensures) at (puts-then g.O.PutText.after (puts-then g.O.PutText.after (puts-then g.O.PutText.after (puts-then g.O.PutText.after c.put_valued.ensures c.put_valued-2.ensures) c.put_word.ensures) c.put_channel_paths.ensures) c.put_word-2.ensures)
