-- An open receiver takes.
use Rattle.std.proofs.Common.{refl}
use Rattle.c_receiver.proofs.Opened.{where-open}
use Rattle.c_receiver.proofs.held.HeldReceiver.take.Goals as goal

pub returns-clause-takes : goal.returns-clause-takes
returns-clause-takes c = where-open c.args.self.now.state c.in-Open.receiver _ _ c.in-Open.is (c.take.new.receiver, refl, c.take.ensures.takes)
