use Rattle.flow_core.proofs.Giving.{kept_of_cut, drained_sequence, sequence_ahead}
use Rattle.flow_core.proofs.PastTheCut.{delivered-joined}
use Rattle.flow_core.proofs.laws.flow_gives_the_delivery_sequence.Goals as goal

pub returns-clause-drained : goal.returns-clause-drained
returns-clause-drained c = λ check frames chunks fill segments flow_record flow events answers y given fates cut near s is.
    drained_sequence check flow_record flow events answers y given s frames chunks fates is
    (delivered-joined check frames chunks segments s.fates (kept_of_cut check flow_record flow events answers y given s frames chunks fill segments cut near)
    (λ n settled joined unfinished of_cut below joins.
    c.settled_segments_join_to_the_delivered_frames.ensures check frames chunks flow_record.first fill n segments s.fates settled joined unfinished cut of_cut below joins)
    y s.settled given flow.joiner s.below s.joined)

pub returns-clause-ahead : goal.returns-clause-ahead
returns-clause-ahead c = λ check frames chunks fill segments flow_record flow events answers y given fates cut near s is.
    sequence_ahead check flow_record flow events answers y given s frames chunks fates is
    (delivered-joined check frames chunks segments s.fates (kept_of_cut check flow_record flow events answers y given s frames chunks fill segments cut near)
    (λ n settled joined unfinished of_cut below joins.
    c.settled_segments_join_to_the_delivered_frames.ensures check frames chunks flow_record.first fill n segments s.fates settled joined unfinished cut of_cut below joins)
    y s.settled given flow.joiner s.below s.joined) cut.each
