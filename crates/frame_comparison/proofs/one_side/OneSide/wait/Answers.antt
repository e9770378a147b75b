use Rattle.std.proofs.Common.{◌≡◌, ◌<◌, ◌-◌, List, length, map, ap, ◌∙◌, rules, Global}
use Rattle.frame_comparison.specs.Compared.{longest_wait}
use Rattle.std.specs.declared.collections.VecDeque.{VecDeque}
use Rattle.frame_comparison.specs.Frames.{CameFrame}
use Rattle.frame_comparison.proofs.SideKept.{side-refused, waits-kept, waits-count, on_err-always}
use Rattle.frame_comparison.proofs.one_side.OneSide.wait.Goals as goal

pub returns-in_err-push_back-clause-refused : goal.returns-in_err-push_back-clause-refused
returns-in_err-push_back-clause-refused c =
    let items : VecDeque CameFrame Global → List CameFrame = λ queue. queue.items in
    let queues : List (VecDeque CameFrame Global) = c.self.inside.waiting.items in
    on_err-always c.from_residual-in_err-push_back.result
    (rw (← c.self.view_is)
    (side-refused items queues c.self.inside.only.frames.items c.args.flow c.index_mut-waiting.result.now c.push_back.new.self
    c.index_mut-waiting.ensures.value c.in_err-push_back.ensures.items))

pub returns-clause-kept : goal.returns-clause-kept
returns-clause-kept c =
    let items : VecDeque CameFrame Global → List CameFrame = λ queue. queue.items in
    let queues : List (VecDeque CameFrame Global) = c.self.inside.waiting.items in
    let within : c.args.flow < length (map items queues) = rw (← c.self.view_is) at c.requires in
    let frame : CameFrame = c.in_ok-waits.waits in
    let is : frame ≡ c.args.frame.now = search rules in
    let excess : c.saturating_sub-excess.result ≡ length c.push_back.new.self.items - longest_wait =
    c.saturating_sub-excess.ensures ∙ ap (λ n. n - 1024) (search (rules, c.len.ensures))
    in
    rw (← c.self.view_is)
    (rw (← is)
    (waits-kept items queues c.self.inside.only.frames.items c.args.flow c.index_mut-waiting.result.now c.give_up.new.waiting c.saturating_sub-excess.result
    frame c.push_back.new.self.items c.give_up.new.only.frames.items within c.index_mut-waiting.ensures.value c.in_ok-push_back.ensures.items
    excess c.give_up.ensures.waiting c.give_up.ensures.listed))

pub returns-clause-count : goal.returns-clause-count
returns-clause-count c =
    let items : VecDeque CameFrame Global → List CameFrame = λ queue. queue.items in
    let queues : List (VecDeque CameFrame Global) = c.self.inside.waiting.items in
    let within : c.args.flow < length (map items queues) = rw (← c.self.view_is) at c.requires in
    let frame : CameFrame = c.in_ok-waits.waits in
    let is : frame ≡ c.args.frame.now = search rules in
    let excess : c.saturating_sub-excess.result ≡ length c.push_back.new.self.items - longest_wait =
    c.saturating_sub-excess.ensures ∙ ap (λ n. n - 1024) (search (rules, c.len.ensures))
    in
    rw (← c.self.view_is)
    (rw (← is)
    (waits-count items queues c.args.flow c.index_mut-waiting.result.now c.saturating_sub-excess.result frame c.push_back.new.self.items within
    c.index_mut-waiting.ensures.value c.in_ok-push_back.ensures.items excess))
