use Rattle.std.proofs.Common.{◌-◌, List, Option, ap, sym, subst, ◌∙◌}
use Rattle.reorder.specs.View.{WindowView, held_at}
use Rattle.reorder.specs.Inside.Places.{IsKept}
use Rattle.reorder.proofs.WindowFields.{held-at_first}
use Rattle.reorder.proofs.NothingHeld.{count-positive, kept-taken, next-open, passed-next_taken}
use Rattle.reorder.proofs.window.Window.take_next.Goals as goal

pub returns-in_err-item-clause-item : goal.returns-in_err-item-clause-item
returns-in_err-item-clause-item g c =
    c.from_residual.ensures
    ∙ c.in_err-item.ensures.item
    ∙ sym (held-at_first _ _ _ c.self.invariant)
    ∙ ap (λ (w : WindowView _). held_at w w.expected) c.self.view_is

pub overflow_sub-self : goal.overflow_sub-self
overflow_sub-self g c = count-positive _ _ _ c.self.invariant _ c.in_ok-item.ensures.item

pub invariant_of-self-2 : goal.invariant_of-self-2
invariant_of-self-2 g c =
    subst (λ (ps : List (Option _)). IsKept c.self.inside.expected (c.self.inside.held - 1) ps) (sym c.in_ok-item.ensures.after) (kept-taken _ _ _ c.self.invariant _ c.in_ok-item.ensures.item)

pub pass_numbers-requires-clause-none_held : goal.pass_numbers-requires-clause-none_held
pass_numbers-requires-clause-none_held g c = next-open _ _ _ c.self.invariant _ c.in_ok-item.ensures.item _ c.in_ok-item.ensures.after

pub returns-clause-item : goal.returns-clause-item
returns-clause-item g c =
    c.in_ok-item.ensures.item
    ∙ sym (held-at_first _ _ _ c.self.invariant)
    ∙ ap (λ (w : WindowView _). held_at w w.expected) c.self.view_is

pub returns-clause-after : goal.returns-clause-after
returns-clause-after g c =
    c.pass_numbers.ensures.after
    ∙ passed-next_taken _ _ _ c.self.invariant _ c.in_ok-item.ensures.item _ c.in_ok-item.ensures.after _ c.self.view_is
