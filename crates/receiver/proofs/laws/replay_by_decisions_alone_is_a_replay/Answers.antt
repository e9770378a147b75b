use Rattle.receiver.proofs.DecidedOutcomes.{decided-outcomes, outcomes-decided}
use Rattle.receiver.proofs.laws.replay_by_decisions_alone_is_a_replay.Goals as goal

pub returns-clause-replay : goal.returns-clause-replay
returns-clause-replay c = λ check setup incoming order outcome is. record {
  intake = is.intake;
  flows = decided-outcomes check setup order is.intake.items outcome.flows.items is.intake.merged.paired is.flows;
  request_lists = is.request_lists;
  requests = is.requests;
  report_count = is.report_count;
  reports = is.reports;
  order_is = is.order_is;
}

pub returns-clause-by_rule : goal.returns-clause-by_rule
returns-clause-by_rule c = λ check setup incoming order outcome is. record {
  intake = is.intake;
  flows = outcomes-decided check setup order is.intake.items outcome.flows.items is.intake.merged.paired is.flows;
  request_lists = is.request_lists;
  requests = is.requests;
  report_count = is.report_count;
  reports = is.reports;
  order_is = is.order_is;
}
