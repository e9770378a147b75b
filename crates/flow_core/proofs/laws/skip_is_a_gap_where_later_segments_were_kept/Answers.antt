use Rattle.flow_core.proofs.Skipping.{skip-gap}
use Rattle.flow_core.proofs.laws.skip_is_a_gap_where_later_segments_were_kept.Goals as goal

pub returns : goal.returns
returns c = skip-gap
