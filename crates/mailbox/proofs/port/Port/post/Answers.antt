use Rattle.std.proofs.Common.{rules, refl}
use Rattle.crossbeam_queue.specs.Passes.{view}
use Rattle.mailbox.proofs.Steps.{posts_own, refuses}
use Rattle.mailbox.proofs.Posting.{stays_open}
use Rattle.mailbox.proofs.port.Port.post.Goals as goal

pub push_as-requires-clause-rule : goal.push_as-requires-clause-rule
push_as-requires-clause-rule g c = (posts_own _ _ _ _ c.args.self.now.knows, refuses _ _)

pub invariant_of-self : goal.invariant_of-self
invariant_of-self g c =
    let k = stays_open (view c.args.self.now.pass) (view c.push_as.new.pass) _ c.args.item _ _ refl c.push_as.result c.push_as.ensures.rule c.args.self.now.knows c.args.self.now.unended in
    record { sender = c.args.self.now.sender; of_queue = search rules; knows = k.0; unended = k.1 }
