use Rattle.std.proofs.Common.{◌≡◌, ◌<◌, ◌-◌, List, length, refl, arith}
use Rattle.capture_picture.specs.Columns.{with_span}
use Rattle.capture_picture.specs.ShownFlow.{with_segment}
use Rattle.capture_picture.specs.declared.column.Column.{Column}
use Rattle.capture_picture.proofs.Changed.{changed_at-set}
use Rattle.capture_picture.proofs.flow_picture.FlowPicture.take_segment.Goals as goal

pub returns : goal.returns
unfolding with_segment
returns c =
    let inside = c.self.inside in
    let columns : List Column = inside.columns.items in
    let index = c.nearest_index-index.result in
    let newest = c.max-self-inside.result in
    let all : length columns ≡ 256 = c.self.invariant in
    let within : c.args.column < length columns = omega (arith, all, c.requires) in
    let brought = changed_at-set c.args.column (with_span c.args.channel (record { low = index; high = index; behind = newest - index })) columns
    c.index_mut.result.now c.add.new.self within c.index_mut.ensures.value c.add.ensures
    in
    rw (← c.self.view_is)
    (rw (brought, c.saturating_add-self-inside.ensures, c.max-self-inside.ensures, c.nearest_index-index.ensures) refl)
