use Rattle.std.proofs.Common.{ap, sym, ◌∙◌}
use Rattle.reorder.specs.View.{WindowView, held_at}
use Rattle.reorder.proofs.WindowFields.{held-at_first}
use Rattle.reorder.proofs.window.Window.next.Goals as goal

pub returns-clause-item : goal.returns-clause-item
returns-clause-item g c =
    c.get.ensures
    ∙ sym (held-at_first _ _ _ c.self.invariant)
    ∙ ap (λ (w : WindowView _). held_at w w.expected) c.self.view_is
