use Rattle.std.proofs.Common.{◌≡◌, ◌<◌, List, length, ap, arith}
use Rattle.capture_picture.specs.Marking.{with_marks}
use Rattle.capture_picture.specs.ShownFlow.{ShownFlow, with_mark_in}
use Rattle.capture_picture.specs.declared.column.Column.{Column}
use Rattle.capture_picture.specs.declared.marks.Marks.{Marks}
use Rattle.capture_picture.proofs.Changed.{changed_at-set}
use Rattle.capture_picture.proofs.flow_picture.FlowPicture.mark.Goals as goal

pub returns : goal.returns
unfolding with_mark_in
returns c =
    let inside = c.self.inside in
    let columns : List Column = inside.columns.items in
    let read : Column = c.index_mut.result.now in
    let all : length columns ≡ 256 = c.self.invariant in
    let within : c.args.column < length columns = omega (arith, all, c.requires) in
    let marked = changed_at-set c.args.column (λ (one : Column). record one { marks = with_marks c.args.mark c.args.count one.marks }) columns read
    (record read { marks = c.add.new.self }) within c.index_mut.ensures.value (ap (λ (marks : Marks). record read { marks = marks }) c.add.ensures)
    in
    let as_it_was : ShownFlow = record { flow = inside.flow; sfid = inside.sfid; newest = inside.newest; bursts = inside.bursts; columns = columns } in
    rw (← c.self.view_is) (ap (λ (all : List Column). record as_it_was { columns = all }) marked)
