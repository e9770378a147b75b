use Rattle.flow_core.proofs.Growth.{sequence_grows}
use Rattle.flow_core.proofs.laws.delivery_sequence_only_grows.Goals as goal

pub returns : goal.returns
returns c = sequence_grows
