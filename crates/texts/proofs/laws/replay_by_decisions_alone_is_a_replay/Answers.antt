use Rattle.receiver.specs.Entries.{incoming_in}
use Rattle.texts.specs.AnyHeader.{any_header}
use Rattle.texts.proofs.laws.replay_by_decisions_alone_is_a_replay.Goals as goal

pub returns-clause-replay : goal.returns-clause-replay
returns-clause-replay c = λ input text is. record {
  said = is.said;
  read = is.read;
  outcome = is.outcome;
  played = record {
    setup = is.played.setup;
    given = is.played.given;
    order = is.played.order;
    admitted = is.played.admitted;
    answered =
        c.replay_by_decisions_alone_is_a_replay.ensures.replay any_header is.played.setup (incoming_in is.said.entries) is.played.order is.outcome
        is.played.answered;
  };
  printed = is.printed;
}

pub returns-clause-by_rule : goal.returns-clause-by_rule
returns-clause-by_rule c = λ input text is. record {
  said = is.said;
  read = is.read;
  outcome = is.outcome;
  played = record {
    setup = is.played.setup;
    given = is.played.given;
    order = is.played.order;
    admitted = is.played.admitted;
    answered =
        c.replay_by_decisions_alone_is_a_replay.ensures.by_rule any_header is.played.setup (incoming_in is.said.entries) is.played.order is.outcome
        is.played.answered;
  };
  printed = is.printed;
}
