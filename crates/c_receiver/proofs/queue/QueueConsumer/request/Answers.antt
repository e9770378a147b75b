-- A request that was pushed waits, and one that wasn't is missed.
use Rattle.std.proofs.Common.{false, [], ◌∷◌, ◌++◌, ap, refl, sym, ◌∙◌}
use Rattle.c_receiver.specs.declared.plain.PlainRequest.{PlainRequest}
use Rattle.consumer.specs.declared.given.Given.TheVariants.{Asked}
use Rattle.c_receiver.proofs.QueueGrowing.{pushed, not-pushed, grew-by-request, queued-one, missed-one}
use Rattle.c_receiver.proofs.queue.QueueConsumer.request.Goals as goal

pub returns-else-is_err : goal.returns-else-is_err
returns-else-is_err c = λ start given before.
    let now = c.args.self.now in
    queued-one start now (record { frames = now.frames; requests = c.push_back.new.self; whole = now.whole }) given (Asked c.args.request) before
    (λ kept grew. grew-by-request start now _ kept c.args.request grew
    (pushed c.push_back.result now.requests.items _ c.push_back.new.self.items (sym c.is_err.ensures.value ∙ c.if-is_err.false) c.push_back.ensures.items
    ∙ ap (λ (one : PlainRequest). now.requests.items ++ one ∷ []) c.of.ensures) refl) refl

pub returns-then-is_err : goal.returns-then-is_err
returns-then-is_err c = λ start given before.
    let now = c.args.self.now in
    missed-one start now (record { frames = now.frames; requests = c.push_back.new.self; whole = false }) given (Asked c.args.request) before
    refl (not-pushed c.push_back.result now.requests.items _ c.push_back.new.self.items (sym c.is_err.ensures.value ∙ c.if-is_err.true) c.push_back.ensures.items) refl
