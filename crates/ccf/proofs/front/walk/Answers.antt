use Rattle.std.proofs.Common.{◌∙◌}
use Rattle.ccf.proofs.FrameSplits.{walk_further}
use Rattle.ccf.proofs.front.walk.Goals as goal

pub loop-length-preserved : goal.loop-length-preserved
loop-length-preserved g c =
    let further = walk_further (g.C.HeaderCheck.accepts c.args.check.now) c.args.bytes.now c.loop-length.frames.items c.push.new.self.items c.loop-length.rest.now c.from.result c.split_at.result.0.now c.split_at.result.1.now c.in-Whole.length
    c.loop-length.invariant.whole c.loop-length.invariant.each c.in-Whole.ensures.2 c.split_at.ensures.front c.split_at.ensures.back
    (c.from.ensures ∙ c.in_ok-from_slice-in-Whole.ensures.items) c.in_ok-push-in-Whole.ensures.items in
    record { whole = further.0; each = further.1 }
