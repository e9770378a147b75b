-- What was taken is the delivery sequence of each flow, by the headline.
use Rattle.uses.proofs.run_caller.receive.Goals as goal

pub returns-clause-taken : goal.returns-clause-taken
returns-clause-taken g c =
    let headline = c.in_ok-outcome.ensures.headline in
    record {
      order = c.in_ok-outcome.outcome.order.items;
      intake = headline.intake;
      flow_count = c.in_ok-outcome.ensures.answer.flows.count;
      frames_taken = headline.delivered;
    }
