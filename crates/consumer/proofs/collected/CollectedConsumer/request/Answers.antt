-- A request that was appended is kept.
use Rattle.std.proofs.Common.{subst}
use Rattle.consumer.specs.Collecting.{Appends}
use Rattle.consumer.proofs.Growing.{grew-by-request}
use Rattle.consumer.proofs.collected.CollectedConsumer.request.Goals as goal

pub returns-else-not-append : goal.returns-else-not-append
returns-else-not-append c = λ start given before whole.
    let was = before whole in (
      was.0,
      grew-by-request start c.args.self.now given c.args.request c.append.new.lists was.1
          (subst (λ index. Appends c.args.self.now.requests.items index c.args.request c.append.new.lists.items) c.from.ensures (c.append.ensures c.if-not-append.false)),
    )
