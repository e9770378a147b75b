-- A frame that was appended is kept.
use Rattle.consumer.proofs.Growing.{grew-by-frame}
use Rattle.consumer.proofs.collected.CollectedConsumer.frame.Goals as goal

pub returns-else-not-append_frame : goal.returns-else-not-append_frame
returns-else-not-append_frame c = λ start given before whole.
    let was = before whole in
    (was.0, grew-by-frame start c.args.self.now given c.args.flow c.args.frame c.append_frame.new.lists was.1 (c.append_frame.ensures c.if-not-append_frame.false))
