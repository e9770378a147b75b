-- A new receiver stands for nothing.
use Rattle.std.proofs.Common.{[], rules}
use Rattle.receiver.specs.HandedIn.{made_of}
use Rattle.receiver.proofs.receiver.Receiver.new.Goals as goal

pub returns-clause-receiving : goal.returns-clause-receiving
returns-clause-receiving g c = record {
  check = g.C.HeaderCheck.accepts c.args.check;
  made = made_of c.args.rule c.args.width.channels c.args.setup.now;
  handed = [];
  given = [];
  stands = search rules;
}
