-- Nothing was handed in yet.
use Rattle.std.proofs.Common.{[]}
use Rattle.receiver.proofs.ReplayedEntries.{replayed-nothing}
use Rattle.receiver.proofs.replaying.Replaying.new.Goals as goal

pub returns-clause-replays : goal.returns-clause-replays
returns-clause-replays g c =
    replayed-nothing g.C.HeaderCheck.accepts c.args.rule (g.C.HeaderCheck.accepts c.args.check) c.args.setup.now _ c.in_ok-new.ensures.plays c.new-2.ensures.items

pub returns-clause-replaying : goal.returns-clause-replaying
returns-clause-replaying g c = record {
  rule = c.args.rule;
  check = g.C.HeaderCheck.accepts c.args.check;
  setup = c.args.setup.now;
  entries = [];
  replayed = returns-clause-replays g c;
  five = c.in_ok-new.ensures.playing.five;
}
