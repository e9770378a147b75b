use Rattle.std.proofs.Common.{◌+◌, ◌/◌, []}
use Rattle.capture_picture.specs.Marking.{kept_within, no_marks, count_of_mark}
use Rattle.capture_picture.specs.Grid.{column_left}
use Rattle.capture_picture.specs.Panel.{mark_stroke}
use Rattle.capture_picture.specs.declared.column.Column.{Column}
use Rattle.text_lines.proofs.PutTexts.{puts-one-more-numbered}
use Rattle.capture_picture.proofs.panel.put_mark_strokes.Goals as goal

pub loop-at-preserved : goal.loop-at-preserved
loop-at-preserved g c =
    let any : Column = record { spans = []; marks = no_marks } in
    puts-one-more-numbered g.O.PutText.after c.args.columns.now c.loop-at.at any c.loop-at-test.true
    (λ at (column : Column). mark_stroke (kept_within (column_left c.args.grid.now at + c.args.grid.now.column / 2)) (count_of_mark column.marks c.args.mark))
    c.args.out.now c.loop-at.out c.put_mark_stroke.new.out c.loop-at.invariant
    (rw (c.saturating_add-left.ensures, c.column_left.ensures, c.of.ensures) at c.put_mark_stroke.ensures)
