use Rattle.std.proofs.Common.{[], get_or, None}
use Rattle.capture_picture.specs.Marking.{no_marks}
use Rattle.capture_picture.specs.Grid.{stroke_left}
use Rattle.capture_picture.specs.Charts.{stroke_text}
use Rattle.capture_picture.specs.declared.column.Column.{Column}
use Rattle.text_lines.proofs.PutTexts.{puts-one-more-numbered}
use Rattle.capture_picture.proofs.chart.put_channel_strokes.Goals as goal

pub loop-at-preserved : goal.loop-at-preserved
loop-at-preserved g c =
    let any : Column = record { spans = []; marks = no_marks } in
    puts-one-more-numbered g.O.PutText.after c.args.columns.now c.loop-at.at any c.loop-at-test.true
    (λ at (column : Column). stroke_text c.args.chart c.args.whole (stroke_left c.args.grid.now c.args.place at) (get_or column.spans c.args.channel None))
    c.args.out.now c.loop-at.out c.put_stroke.new.out c.loop-at.invariant (rw (c.stroke_left-left.ensures, c.span_of.ensures) at c.put_stroke.ensures)
