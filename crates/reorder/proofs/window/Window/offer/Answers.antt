use Rattle.std.proofs.Common.{◌≡◌, ◌+◌, ◌<◌, is_some, List, Option, length, ap, sym, subst, ◌∙◌, arith}
use Rattle.reorder.specs.Number.{offset}
use Rattle.reorder.specs.View.{WindowView, IsHeld, with_item}
use Rattle.reorder.specs.Inside.Places.{seen, IsKept}
use Rattle.reorder.proofs.WindowFields.{held-at_place, count-small, seen-put, kept-put}
use Rattle.reorder.proofs.window.Window.offer.Goals as goal

pub overflow_add-self : goal.overflow_add-self
overflow_add-self g c = let small = count-small _ _ _ c.self.invariant in omega arith

pub invariant_of-self-in-Ok : goal.invariant_of-self-in-Ok
invariant_of-self-in-Ok g c =
    let place = c.from-place.ensures ∙ c.offset-offset.ensures in
    subst (λ (ps : List (Option _)). IsKept c.self.inside.expected (c.self.inside.held + 1) ps) (sym c.in-Ok.ensures.put)
    (kept-put _ _ _ c.self.invariant c.args.number _ c.args.item c.requires place (omega arith) c.in-Ok.ensures.free)

pub returns-in-Err-clause-verdict : goal.returns-in-Err-clause-verdict
returns-in-Err-clause-verdict g c =
    let place = c.from-place.ensures ∙ c.offset-offset.ensures in
    let held = held-at_place _ _ _ c.self.invariant c.args.number _ c.requires place in
    subst (λ (w : WindowView _). (offset w.expected c.args.number < w.width) × IsHeld w c.args.number × (c.in-Err.item ≡ c.args.item)) c.self.view_is
    (subst (λ n. n < length c.self.inside.places) place (omega arith), ap is_some held ∙ c.in-Err.ensures.taken, c.in-Err.ensures.back.0)

pub returns-in-Ok-clause-verdict : goal.returns-in-Ok-clause-verdict
returns-in-Ok-clause-verdict g c =
    let place = c.from-place.ensures ∙ c.offset-offset.ensures in
    let free = held-at_place _ _ _ c.self.invariant c.args.number _ c.requires place ∙ c.in-Ok.ensures.free in
    subst (λ (w : WindowView _). (offset w.expected c.args.number < w.width) × ¬ (IsHeld w c.args.number)) c.self.view_is
    (subst (λ n. n < length c.self.inside.places) place (omega arith), λ held. let found = sym (ap is_some free) ∙ held in cc)

pub returns-in-Ok-clause-after : goal.returns-in-Ok-clause-after
returns-in-Ok-clause-after g c =
    let place = c.from-place.ensures ∙ c.offset-offset.ensures in
    ap (λ (ps : List (Option _)). seen c.self.inside.expected ps) c.in-Ok.ensures.put
    ∙ seen-put _ _ _ c.self.invariant c.args.number _ c.args.item c.requires place (omega arith)
    ∙ ap (λ (w : WindowView _). with_item w c.args.number c.args.item) c.self.view_is

pub returns-in-Ok-clause-lawful : goal.returns-in-Ok-clause-lawful
returns-in-Ok-clause-lawful g c = (invariant_of-self-in-Ok g c).lawful
