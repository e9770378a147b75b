use Rattle.std.proofs.Common.{rules}
use Rattle.uses.proofs.delivery_run.append.Goals as goal

pub returns : goal.returns
returns c = (c.in_ok-frames.frames, c.in_ok-frames.was, search rules)
