use Rattle.std.proofs.Common.{refl}
use Rattle.bonded_flows.specs.FlowSetup.{ruled_flow}
use Rattle.bonded_flows.proofs.laws.bonded_flow_gives_the_frames_that_all_came.Goals as goal

pub returns : goal.returns
returns c = λ check frames chunks fill segments setup comings index_at gave counts looks narrow cut order falls safely gives.
    c.closed_flow_gives_the_frames_that_all_came.ensures check frames chunks fill gives.n segments setup.rule (ruled_flow setup) setup.flow_record comings index_at
    gives.events gives.lasts gives.fates gave counts looks narrow refl refl cut order falls safely gives.ruled gives.outcome gives.closed
