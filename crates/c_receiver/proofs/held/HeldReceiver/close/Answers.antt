-- The close is that of the state that was taken out, and what comes of it is put back.
use Rattle.std.proofs.Common.{ap, subst, ◌∙◌}
use Rattle.c_receiver.specs.Held.{ClosesState}
use Rattle.c_receiver.specs.Statuses.{told}
use Rattle.c_receiver.proofs.held.HeldReceiver.close.Goals as goal

pub returns-clause-closes : goal.returns-clause-closes
returns-clause-closes c = (
  c.close-ended.result,
  subst (λ state. ClosesState state c.args.self.now.queue c.close-ended.result c.close-ended.new.queue) c.replace-state.ensures.value c.close-ended.ensures.closes,
  c.after.ensures,
  c.told.ensures ∙ ap (told c.close-ended.new.queue.whole) c.closed_status-status.ensures,
)
