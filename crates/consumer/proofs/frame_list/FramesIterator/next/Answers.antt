-- The frame at its place is the first of those that are left.
use Rattle.std.proofs.Common.{◌∷◌, ◌+◌, drop, ap, ◌∙◌}
use Rattle.std.proofs.lemmas.List.{drop_more}
use Rattle.std.proofs.lemmas.Option.{slice_get_within, get_or_from_slice_get}
use Rattle.consumer.proofs.frame_list.FramesIterator.next.Goals as goal

pub returns-clause-steps : goal.returns-clause-steps
returns-clause-steps c =
    let frames = c.args.self.now.list.now.items in
    let place = c.args.self.now.next in
    let frame = c.in_ok-frame.frame.now in
    let there = c.in_ok-frame.ensures.frame in
    drop_more frames place frame (slice_get_within frames place frame there)
    ∙ ap (λ first. first ∷ drop (place + 1) frames) (get_or_from_slice_get frames place frame frame there)
