-- An open receiver goes on.
use Rattle.std.proofs.Common.{refl}
use Rattle.c_receiver.proofs.Opened.{where-open}
use Rattle.c_receiver.proofs.held.HeldReceiver.go_on.Goals as goal

pub returns-clause-goes_on : goal.returns-clause-goes_on
returns-clause-goes_on c = where-open c.args.self.now.state c.in-Open.receiver _ _ c.in-Open.is (c.go_on.new.receiver, refl, c.go_on.ensures.goes_on)
