-- A flow of an open receiver begins anew.
use Rattle.std.proofs.Common.{refl}
use Rattle.c_receiver.proofs.Opened.{where-open}
use Rattle.c_receiver.proofs.held.HeldReceiver.restart.Goals as goal

pub returns-clause-restarts : goal.returns-clause-restarts
returns-clause-restarts c = where-open c.args.self.now.state c.in-Open.receiver _ _ c.in-Open.is (c.restart.new.receiver, refl, c.restart.ensures.restarts)
