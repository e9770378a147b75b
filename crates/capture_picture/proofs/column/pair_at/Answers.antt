use Rattle.std.proofs.Common.{refl}
use Rattle.capture_picture.specs.Columns.{pair_at}
use Rattle.capture_picture.proofs.column.pair_at.Goals as goal

pub returns : goal.returns
unfolding pair_at
returns c = rw (c.joined.ensures, c.column_at.ensures, c.column_at-2.ensures) refl
