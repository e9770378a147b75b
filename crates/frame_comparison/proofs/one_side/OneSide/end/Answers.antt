use Rattle.std.proofs.Common.{◌≡◌, ◌<◌, ◌≤◌, ◌++◌, List, length, map, take, ap, sym, ◌∙◌, rules, arith, Global}
use Rattle.std.proofs.lemmas.List.{drop_all}
use Rattle.std.specs.declared.collections.VecDeque.{VecDeque}
use Rattle.frame_comparison.specs.Frames.{CameFrame, shown_of}
use Rattle.frame_comparison.specs.Seen.{listed}
use Rattle.frame_comparison.proofs.SideKept.{all-kept}
use Rattle.frame_comparison.proofs.one_side.OneSide.end.Goals as goal

pub returns-clause-kept : goal.returns-clause-kept
returns-clause-kept c =
    let items : VecDeque CameFrame Global → List CameFrame = λ queue. queue.items in
    let queues : List (VecDeque CameFrame Global) = c.self.inside.waiting.items in
    let within : c.args.flow < length (map items queues) = rw (← c.self.view_is) at c.requires in
    let queue : VecDeque CameFrame Global = c.index_mut.result.now in
    let same : c.replace-waiting.result.items ≡ queue.items = ap items c.replace-waiting.ensures.value in
    let counted : c.len-count.result ≡ length queue.items = search (rules, c.len-count.ensures) ∙ ap length same in
    let few : length queue.items ≤ c.len-count.result = omega arith in
    rw (← c.self.view_is)
    (all-kept items queues c.self.inside.only.frames.items c.args.flow queue c.replace-waiting.new.dest c.len-count.result
    c.give_up.new.only.frames.items within c.index_mut.ensures.value counted
    (ap items c.replace-waiting.ensures.after ∙ (c.new.ensures.items ∙ sym (drop_all c.len-count.result queue.items few)))
    (c.give_up.ensures.listed ∙ ap (λ all. listed (c.self.inside.only.frames.items ++ map (shown_of c.args.flow) (take c.len-count.result all))) same))
