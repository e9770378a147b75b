-- What was given so far are the frames that were taken from the list.
use Rattle.std.proofs.Common.{◌++◌, List, map}
use Rattle.consumer.specs.declared.given.Given.{Given}
use Rattle.consumer.specs.declared.given.Given.TheVariants.{Frame}
use Rattle.consumer.proofs.giving.give_frames.Given as goal

abbrev pub invariant-loop-frame : goal.invariant-loop-frame
invariant-loop-frame g l =
    (start : _) (given : List Given) → g.O.Consumer.after start given l.fn.out → g.O.Consumer.after start (given ++ map (Frame l.flow) l.yielded) l.out
