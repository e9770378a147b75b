-- An open receiver decides.
use Rattle.std.proofs.Common.{refl}
use Rattle.c_receiver.proofs.Opened.{where-open}
use Rattle.c_receiver.proofs.held.HeldReceiver.decide_so.Goals as goal

pub returns-clause-decides : goal.returns-clause-decides
returns-clause-decides c = where-open c.args.self.now.state c.in-Open.receiver _ _ c.in-Open.is (c.decide.new.receiver, refl, c.decide.ensures.decides)
