-- What all lines gave.
use Rattle.receiver.proofs.ReplayedEntries.{on-both}
use Rattle.texts.proofs.replay.finish_replay.Goals as goal

pub returns : goal.returns
returns c =
    on-both c.finish-2.result
    (λ outcome admitted answered given has.
    let replayed = c.in_ok-setup.ensures.taken given has in
    record {
      setup = c.in_ok-setup.setup;
      given = c.in_ok-setup.ensures.setup given has;
      order = outcome.order.items;
      admitted = admitted given.rule given.said.entries replayed;
      answered = answered given.rule given.said.entries replayed;
    })
    c.finish-2.ensures.order c.finish-2.ensures.outcome
