use Rattle.receiver.specs.Items.{incoming_of}
use Rattle.texts.specs.AnyHeader.{any_header}
use Rattle.texts.proofs.laws.run_by_decisions_alone_is_a_run.Goals as goal

pub returns-clause-run : goal.returns-clause-run
returns-clause-run c = λ ring mailbox input text is. record {
  trace = is.trace;
  is_trace = is.is_trace;
  outcome = is.outcome;
  received =
      c.replay_by_decisions_alone_is_a_replay.ensures.replay any_header is.trace.setup (incoming_of is.trace.lists) is.outcome.order.items is.outcome
      is.received;
  printed = is.printed;
}

pub returns-clause-by_rule : goal.returns-clause-by_rule
returns-clause-by_rule c = λ ring mailbox input text is. record {
  trace = is.trace;
  is_trace = is.is_trace;
  outcome = is.outcome;
  received =
      c.replay_by_decisions_alone_is_a_replay.ensures.by_rule any_header is.trace.setup (incoming_of is.trace.lists) is.outcome.order.items is.outcome
      is.received;
  printed = is.printed;
}
