use Rattle.std.proofs.Common.{[], ap, ◌∙◌}
use Rattle.circular_buffer.specs.Buffer.{buffer}
use Rattle.reorder.proofs.RingFields.{new-from_first}
use Rattle.reorder.proofs.ring.Ring.new.Goals as goal

pub returns : goal.returns
returns g c = new-from_first _ c.args.width (c.in_ok-reached.ensures ∙ ap (buffer []) c.from.ensures)
