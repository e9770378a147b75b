-- A short frame stands behind the others.
use Rattle.std.proofs.Common.{◌∙◌, ap, rules, ◌++◌, ◌∷◌, []}
use Rattle.consumer.proofs.Behind.{short-kept}
use Rattle.consumer.proofs.frame_list.FrameList.push.Goals as goal

pub returns-clause-pushed : goal.returns-clause-pushed
returns-clause-pushed c =
    rw (c.in_ok-extend_from_slice.ensures.items, c.push_reserved-2.ensures.items, c.reserve.ensures.items)
    (short-kept c.self.inside.short.items c.as_slice.result.now c.self.inside.frames.items c.len-start.result c.len-end.result c.self.invariant
    (search rules) (search rules)
    ∙ ap (λ items. items ++ c.as_slice.result.now ∷ []) (ap (λ frames. frames.items) c.self.view_is)
    ∙ ap (λ frame. c.args.self.now.items ++ frame ∷ []) c.as_slice.ensures)
