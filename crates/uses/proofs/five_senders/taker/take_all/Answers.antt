use Rattle.std.proofs.Common.{rules}
use Rattle.mailbox.specs.Mouths.{taken}
use Rattle.uses.proofs.FiveSenders.{collects-item, collects-same}
use Rattle.uses.proofs.five_senders.taker.take_all.Goals as goal

pub loop-preserved-in-Item : goal.loop-preserved-in-Item
loop-preserved-in-Item g c =
    let takes = c.in-Item.ensures.takes in (
      search rules,
      collects-item _ (taken c.loop.mouth) _ c.in-Item.from c.in-Item.item c.loop.gathered _ takes.five c.with-gathered.ensures takes.taken_is c.loop.invariant.1,
    )

pub loop-preserved-in-End : goal.loop-preserved-in-End
loop-preserved-in-End g c = (search rules, collects-same _ (taken c.loop.mouth) _ c.loop.gathered c.in-End.ensures.takes.taken_is c.loop.invariant.1)

pub loop-preserved : goal.loop-preserved
loop-preserved g c = (search rules, collects-same _ (taken c.loop.mouth) _ c.loop.gathered c.in-Empty.ensures.takes.taken_is c.loop.invariant.1)
