-- The decision of a kind and a number is taken.
use Rattle.c_receiver.specs.Held.Decides.{known}
use Rattle.c_receiver.proofs.held.HeldReceiver.decide.Goals as goal

pub returns-clause-decides : goal.returns-clause-decides
returns-clause-decides c = known c.in-Some.decision c.in-Some.ensures.some c.decide_so.ensures.decides
