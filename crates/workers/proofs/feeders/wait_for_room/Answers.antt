-- One feeder is flushed, and stays of the same ring.
use Rattle.std.proofs.Math.Seq.{map-set_same}
use Rattle.delivery.specs.Feeders.{feeder_ring, offered}
use Rattle.workers.proofs.feeders.wait_for_room.Goals as goal

pub returns-then-flow-feeders-clause-rings : goal.returns-then-flow-feeders-clause-rings
returns-then-flow-feeders-clause-rings g c =
    map-set_same feeder_ring c.args.feeders.now c.args.flow c.empty_backlog.new.feeder c.index-feeders-flow.result c.empty_backlog.ensures.ring

pub returns-then-flow-feeders-clause-offered : goal.returns-then-flow-feeders-clause-offered
returns-then-flow-feeders-clause-offered g c =
    map-set_same offered c.args.feeders.now c.args.flow c.empty_backlog.new.feeder c.index-feeders-flow.result c.empty_backlog.ensures.offered
