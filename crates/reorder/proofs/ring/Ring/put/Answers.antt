use Rattle.std.proofs.Common.{ap, is_some, sym, ◌∙◌, arith, refl, None, slice_set}
use Rattle.std.proofs.lemmas.Option.{slice_get-get_or}
use Rattle.reorder.proofs.RingFields.{width-is, place-within, place-reached, held-reached, ring-put, from_first-put, set-same}
use Rattle.reorder.proofs.ring.Ring.put.Goals as goal

pub place_from-place-requires-clause-offset_in_range : goal.place_from-place-requires-clause-offset_in_range
place_from-place-requires-clause-offset_in_range g c = omega (arith, width-is _ _ c.self.invariant _ c.self.view_is)

pub reach-requires : goal.reach-requires
reach-requires g c = omega (arith, place-within _ _ c.self.invariant _ c.self.view_is _ _ _ c.capacity.ensures.capacity c.requires c.place_from-place.ensures)

pub unreachable-requires : goal.unreachable-requires
unreachable-requires g c =
    let there = slice_get-get_or _ _ None (place-reached _ _ c.self.invariant _ c.self.view_is _ _ _ c.capacity.ensures.capacity c.requires c.place_from-place.ensures _ c.reach.ensures) in
    let nothing = c.in_default.ensures.value in
    cc

pub invariant_of-self : goal.invariant_of-self
invariant_of-self g c = ring-put _ _ c.self.invariant _ c.self.view_is _ _ _ c.capacity.ensures.capacity c.requires c.place_from-place.ensures _ c.reach.ensures _

pub returns-then-is_some-clause-taken : goal.returns-then-is_some-clause-taken
returns-then-is_some-clause-taken g c =
    let held = held-reached _ _ c.self.invariant _ c.self.view_is _ _ _ c.capacity.ensures.capacity c.requires c.place_from-place.ensures _ c.reach.ensures _ (sym c.in-Some.ensures.value) in
    ap is_some held ∙ sym c.is_some.ensures ∙ c.if-is_some.true

pub returns-then-is_some-clause-back : goal.returns-then-is_some-clause-back
returns-then-is_some-clause-back g c =
    let held = held-reached _ _ c.self.invariant _ c.self.view_is _ _ _ c.capacity.ensures.capacity c.requires c.place_from-place.ensures _ c.reach.ensures _ (sym c.in-Some.ensures.value) in
    let put = from_first-put _ _ c.self.invariant _ c.self.view_is _ _ _ c.capacity.ensures.capacity c.requires c.place_from-place.ensures _ c.reach.ensures c.in-Some.place.now in
    (refl, put ∙ set-same _ _ _ held)

pub invariant_of-self-2 : goal.invariant_of-self-2
invariant_of-self-2 g c = ring-put _ _ c.self.invariant _ c.self.view_is _ _ _ c.capacity.ensures.capacity c.requires c.place_from-place.ensures _ c.reach.ensures _

pub returns-clause-free : goal.returns-clause-free
returns-clause-free g c =
    held-reached _ _ c.self.invariant _ c.self.view_is _ _ _ c.capacity.ensures.capacity c.requires c.place_from-place.ensures _ c.reach.ensures _ (sym c.in-Some.ensures.value)
    ∙ sym c.in-None.ensures.value

pub returns-clause-put : goal.returns-clause-put
returns-clause-put g c =
    from_first-put _ _ c.self.invariant _ c.self.view_is _ _ _ c.capacity.ensures.capacity c.requires c.place_from-place.ensures _ c.reach.ensures c.replace.new.self
    ∙ ap (slice_set c.args.self.now c.args.offset) c.replace.ensures.after
