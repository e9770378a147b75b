-- A frame that was pushed waits, and one that wasn't is missed.
use Rattle.std.proofs.Common.{false, refl, sym, ◌∙◌}
use Rattle.consumer.specs.declared.given.Given.TheVariants.{Frame}
use Rattle.c_receiver.proofs.QueueGrowing.{pushed, not-pushed, grew-by-frame, queued-one, missed-one}
use Rattle.c_receiver.proofs.queue.QueueConsumer.frame.Goals as goal

pub returns-else-is_err : goal.returns-else-is_err
returns-else-is_err c = λ start given before.
    let now = c.args.self.now in
    queued-one start now (record { frames = c.push_back.new.self; requests = now.requests; whole = now.whole }) given (Frame c.args.flow c.args.frame) before
    (λ kept grew. grew-by-frame start now _ kept c.args.flow c.args.frame grew
    (pushed c.push_back.result now.frames.items _ c.push_back.new.self.items (sym c.is_err.ensures.value ∙ c.if-is_err.false) c.push_back.ensures.items) refl) refl

pub returns-then-is_err : goal.returns-then-is_err
returns-then-is_err c = λ start given before.
    let now = c.args.self.now in
    missed-one start now (record { frames = c.push_back.new.self; requests = now.requests; whole = false }) given (Frame c.args.flow c.args.frame) before
    (not-pushed c.push_back.result now.frames.items _ c.push_back.new.self.items (sym c.is_err.ensures.value ∙ c.if-is_err.true) c.push_back.ensures.items) refl refl
