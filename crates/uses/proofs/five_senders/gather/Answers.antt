use Rattle.std.proofs.Common.{ap, ◌∙◌}
use Rattle.mailbox.specs.Mouths.{taken}
use Rattle.uses.proofs.FiveSenders.{whole_lists, merges}
use Rattle.uses.proofs.five_senders.gather.Goals as goal

pub returns-clause-merge : goal.returns-clause-merge
returns-clause-merge g c =
    let opened = c.in_ok-ports.ensures in
    let started = c.in_ok-team.ensures in
    let all = c.take_all-mouth.ensures in
    let settled = c.settle.ensures in
    let mouth = c.take_all-mouth.result.0 in
    let lists = whole_lists mouth c.settle.result.left c.join.ensures started.ports started.lists opened.posted all.ended settled.p0 settled.p1 settled.p2 settled.p3 settled.p4 in
    merges (taken c.in_ok-team.mouth) (taken mouth) _ c.in-Some.gathered _ c.in-Some.is all.gathered (λ s. ap (λ m. taken m s) started.mouth ∙ opened.taken.taken_is s) lists
