use Rattle.flow_core.proofs.Draining.{gap-to_next}
use Rattle.flow_core.proofs.laws.gap_is_a_gap_to_the_next_number.Goals as goal

pub returns : goal.returns
returns c = gap-to_next
