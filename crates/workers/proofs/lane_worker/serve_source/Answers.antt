-- All inputs that were answered are served.
use Rattle.workers.proofs.LaneServed.{did_serve}
use Rattle.workers.proofs.lane_worker.serve_source.Goals as goal

pub returns : goal.returns
returns g c =
    let has = c.take_inputs-notes.ensures in
    record {
      inputs = has.inputs;
      unanswered = has.unanswered;
      end = c.take_inputs-notes.new.work.source;
      became = has.became;
      over = has.over;
      did = did_serve g.N.LaneNotes.are_of has.inputs c.args.work c.take_inputs-notes.new.work c.take_inputs-notes.result
          c.close_port-arrivals.result c.close_port-requests.result has.arrivals_same has.requests_same has.served
          c.close_port-arrivals.ensures c.close_port-requests.ensures;
    }
