use Rattle.std.proofs.Common.{refl}
use Rattle.capture_picture.specs.Columns.{empty_columns}
use Rattle.capture_picture.proofs.flow_picture.FlowPicture.new.Goals as goal

pub returns : goal.returns
unfolding empty_columns
returns c =
    let columns = c.in_ok-from_elem.ensures.items_if_clones_equal (λ y same. same) in
    rw (columns, c.empty.ensures, c.first_index.ensures) refl
