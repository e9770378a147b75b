use Rattle.std.proofs.Common.{◌<◌, List, length, map, rules, Global}
use Rattle.std.specs.declared.collections.VecDeque.{VecDeque}
use Rattle.frame_comparison.specs.Frames.{CameFrame}
use Rattle.frame_comparison.proofs.SideKept.{all-kept}
use Rattle.frame_comparison.proofs.one_side.OneSide.give_up_all.Goals as goal

pub returns-clause-kept : goal.returns-clause-kept
returns-clause-kept c =
    let items : VecDeque CameFrame Global → List CameFrame = λ queue. queue.items in
    let queues : List (VecDeque CameFrame Global) = c.self.inside.waiting.items in
    let within : c.args.flow < length (map items queues) = rw (← c.self.view_is) at c.requires in
    rw (← c.self.view_is)
    (all-kept items queues c.self.inside.only.frames.items c.args.flow c.index_mut-waiting.result.now c.give_up.new.waiting c.len-count.result
    c.give_up.new.only.frames.items within c.index_mut-waiting.ensures.value (search (rules, c.len-count.ensures)) c.give_up.ensures.waiting c.give_up.ensures.listed)
