use Rattle.std.proofs.Common.{◌<◌, List, length, map, drop, ap, ◌∙◌, Global}
use Rattle.std.specs.declared.collections.VecDeque.{VecDeque}
use Rattle.frame_comparison.specs.Frames.{CameFrame}
use Rattle.frame_comparison.proofs.SideKept.{settled-kept}
use Rattle.frame_comparison.proofs.one_side.OneSide.settle_to.Goals as goal

pub returns : goal.returns
returns c =
    let items : VecDeque CameFrame Global → List CameFrame = λ queue. queue.items in
    let queues : List (VecDeque CameFrame Global) = c.self.inside.waiting.items in
    let within : c.args.flow < length (map items queues) = rw (← c.self.view_is) at c.requires.flow in
    rw (← c.self.view_is)
    (settled-kept items queues c.self.inside.only.frames.items c.args.flow c.index_mut-waiting.result.now c.pop_front.new.self c.args.place
    c.give_up.new.only.frames.items within c.index_mut-waiting.ensures.value (c.pop_front.ensures.rest ∙ ap (drop 1) c.give_up.ensures.waiting)
    c.give_up.ensures.listed)
