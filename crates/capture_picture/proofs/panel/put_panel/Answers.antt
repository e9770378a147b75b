use Rattle.text_lines.proofs.PutTexts.{puts-then}
use Rattle.capture_picture.proofs.panel.put_panel.Goals as goal

pub returns : goal.returns
returns g c = rw (c.whole_span-whole.ensures, c.all_marks.ensures, c.columns-columns.ensures, c.flow.ensures, c.sfid.ensures, c.bursts.ensures) at (puts-then g.O.PutText.after (puts-then g.O.PutText.after (puts-then g.O.PutText.after (puts-then g.O.PutText.after (puts-then g.O.PutText.after (puts-then g.O.PutText.after (puts-then g.O.PutText.after (puts-then g.O.PutText.after (puts-then g.O.PutText.after c.put_valued.ensures c.put_word.ensures) c.put_heading.ensures) c.put_index_labels.ensures) c.put_chart.ensures) c.put_marks.ensures) c.put_behind_labels.ensures) c.put_chart-2.ensures) c.put_axis.ensures) c.put_word-2.ensures)
