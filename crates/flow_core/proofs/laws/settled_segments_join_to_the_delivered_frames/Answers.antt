use Rattle.flow_core.proofs.Deliveries.{delivered_of_settled}
use Rattle.flow_core.proofs.laws.settled_segments_join_to_the_delivered_frames.Goals as goal

pub returns : goal.returns
returns c = λ check frames chunks first fill n segments fates settled joined unfinished cut of_cut below joins.
    delivered_of_settled check frames chunks first fill n segments fates settled joined cut of_cut below
    (c.settled_list_joins_to_the_frames_wholly_kept.ensures check frames chunks first fill segments settled joined unfinished cut of_cut joins)
