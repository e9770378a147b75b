-- A frame that was pushed is at the end of its list.
use Rattle.std.proofs.Common.{arith, rules}
use Rattle.consumer.proofs.Lists.{appends-at}
use Rattle.consumer.proofs.collected.append_frame.Goals as goal

pub returns : goal.returns
returns c = λ kept.
    appends-at c.args.lists.now.items c.args.index c.args.frame c.push.new.self c.index_mut.result.now
    (omega (arith, c.if-len-index.false, c.len.ensures)) c.index_mut.ensures.value (search (rules, kept))
