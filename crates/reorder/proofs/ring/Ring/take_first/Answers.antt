use Rattle.std.proofs.Common.{None, sym, ◌∙◌}
use Rattle.reorder.proofs.RingFields.{held-at_first, nothing-at_first, from_first-taken, set-same}
use Rattle.reorder.proofs.ring.Ring.take_first.Goals as goal

pub returns-in_err-get_mut-clause-item : goal.returns-in_err-get_mut-clause-item
returns-in_err-get_mut-clause-item g c =
    c.from_residual.ensures ∙ sym (nothing-at_first _ _ c.self.invariant _ c.self.view_is c.in_err-get_mut.ensures.value)

pub returns-in_err-get_mut-clause-after : goal.returns-in_err-get_mut-clause-after
returns-in_err-get_mut-clause-after g c =
    c.self.view_is ∙ sym (set-same _ _ None (nothing-at_first _ _ c.self.invariant _ c.self.view_is c.in_err-get_mut.ensures.value))

pub returns-clause-item : goal.returns-clause-item
returns-clause-item g c =
    c.take.ensures.value ∙ sym (held-at_first _ _ c.self.invariant _ c.self.view_is _ (sym c.in_ok-get_mut.ensures.value))

pub returns-clause-after : goal.returns-clause-after
returns-clause-after g c = from_first-taken _ _ c.self.invariant _ c.self.view_is _ _ (sym c.in_ok-get_mut.ensures.value) c.take.ensures.after
