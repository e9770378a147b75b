use Rattle.std.proofs.Common.{option_copied, ap, sym, ◌∙◌, arith}
use Rattle.reorder.proofs.RingFields.{width-is, held-at_place, nothing-at_place}
use Rattle.reorder.proofs.ring.Ring.get.Goals as goal

pub place_from-place-requires-clause-offset_in_range : goal.place_from-place-requires-clause-offset_in_range
place_from-place-requires-clause-offset_in_range g c = omega (arith, width-is _ _ c.self.invariant _ c.self.view_is)

pub returns-in_err-get : goal.returns-in_err-get
returns-in_err-get g c =
    ap option_copied c.from_residual.ensures
    ∙ sym (nothing-at_place _ _ c.self.invariant _ c.self.view_is _ _ _ c.capacity.ensures.capacity c.requires c.place_from-place.ensures c.in_err-get.ensures)

pub returns : goal.returns
returns g c =
    c.as_ref.ensures.value
    ∙ sym (held-at_place _ _ c.self.invariant _ c.self.view_is _ _ _ c.capacity.ensures.capacity c.requires c.place_from-place.ensures _ (sym c.in_ok-get.ensures))
