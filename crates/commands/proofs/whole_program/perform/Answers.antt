use Rattle.std.proofs.Common.{ap}
use Rattle.engines.specs.Device.{inner_of}
use Rattle.commands.proofs.whole_program.perform.Goals as goal

pub returns-in-Ok-clause-performs : goal.returns-in-Ok-clause-performs
returns-in-Ok-clause-performs g c = rw c.in-Follow.is (c.in-Ok.width, (c.in-Ok.ensures.channels, c.in-Ok.ensures.flows), c.follow_text.ensures.follows)

pub returns-in-Ok-clause-shown : goal.returns-in-Ok-clause-shown
returns-in-Ok-clause-shown g c =
    rw c.in-Follow.is (λ start made. (c.in-Ok.width, (c.in-Ok.ensures.channels, c.in-Ok.ensures.flows), c.follow_text.ensures.shown start made))
