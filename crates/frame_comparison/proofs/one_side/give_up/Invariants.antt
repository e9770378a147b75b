use Rattle.std.proofs.Common.{◌≡◌, ◌++◌, drop, take, map}
use Rattle.frame_comparison.specs.Frames.{shown_of}
use Rattle.frame_comparison.specs.Seen.{listed}
use Rattle.frame_comparison.proofs.one_side.give_up.Given as goal

abbrev pub invariant-loop : goal.invariant-loop
invariant-loop l = (l.waiting.items ≡ drop l.counter l.initial.waiting.items)
    × (l.only.frames.items ≡ listed (l.initial.only.frames.items ++ map (shown_of l.flow) (take l.counter l.initial.waiting.items)))
