-- All that was posted and offered was taken, and what is concluded is what was counted and noted.
use Rattle.std.proofs.Common.{◌≡◌, Option, Some, None, IfSome, slice_get, subst, sym, ap, ◌∙◌}
use Rattle.workers.specs.declared.lane_notes.SourceNotes.{SourceNotes}
use Rattle.uplink.specs.declared.assembler.Assembled.{Assembled}
use Rattle.uplink.specs.declared.finish.Concluded.{Concluded}
use Rattle.uplink.specs.declared.finish.Ended.{Ended}
use Rattle.uplink.specs.declared.finish.FourNotes.{FourNotes}
use Rattle.uplink.specs.Inside.Running.{closed_arrivals, closed_requests, IsConclusionOf}
use Rattle.uplink.proofs.AllSettled.{all_settled}
use Rattle.uplink.proofs.finish.conclude.Goals as goal

-- what is said of what is there, where something is
of-some : {X : Type 0} (P : X → Type 0) (o : Option X) (x : X) → o ≡ Some x → IfSome o P → P x
of-some P o x is said = subst (λ o. IfSome o P) is said

module _ {N : Type 0} (end : Ended N) (first second : Option (SourceNotes N × SourceNotes N)) (noted : Option ((SourceNotes N × SourceNotes N) × (SourceNotes N × SourceNotes N)))
    (one : IfSome first (λ pair. (end.done.l0.notes ≡ Some pair.0) × (end.done.l1.notes ≡ Some pair.1)))
    (other : IfSome second (λ pair. (end.done.l2.notes ≡ Some pair.0) × (end.done.l3.notes ≡ Some pair.1)))
    (both : IfSome noted (λ pair. (first ≡ Some pair.0) × (second ≡ Some pair.1))) where
  conclusion : (o : Option (Concluded N))
      → IfSome o (λ concluded. (made : Assembled) × (end.assembled ≡ Some made) × (concluded.counts ≡ made.counts) × (concluded.order ≡ made.order))
      → IfSome o (λ concluded. (notes : (SourceNotes N × SourceNotes N) × (SourceNotes N × SourceNotes N)) × (noted ≡ Some notes)
      × (concluded.lanes ≡ record { n0 = notes.0.0; n1 = notes.0.1; n2 = notes.1.0; n3 = notes.1.1 }))
      → IfSome o (IsConclusionOf end)
  conclusion None counts notes = tt
  conclusion (Some concluded) counts notes =
      let pairs = of-some (λ pair. (first ≡ Some pair.0) × (second ≡ Some pair.1)) noted notes.0 notes.1 both in
      let front = of-some (λ pair. (end.done.l0.notes ≡ Some pair.0) × (end.done.l1.notes ≡ Some pair.1)) first notes.0.0 pairs.0 one in
      let back = of-some (λ pair. (end.done.l2.notes ≡ Some pair.0) × (end.done.l3.notes ≡ Some pair.1)) second notes.0.1 pairs.1 other in
      record {
        assembled = counts.0;
        assembled_is = counts.1;
        counts_are = counts.2;
        order_is = counts.3;
        noted0 = front.0 ∙ ap (λ (lanes : FourNotes N). Some lanes.n0) (sym notes.2);
        noted1 = front.1 ∙ ap (λ (lanes : FourNotes N). Some lanes.n1) (sym notes.2);
        noted2 = back.0 ∙ ap (λ (lanes : FourNotes N). Some lanes.n2) (sym notes.2);
        noted3 = back.1 ∙ ap (λ (lanes : FourNotes N). Some lanes.n3) (sym notes.2);
      }

pub returns : goal.returns
returns g c =
    let end = c.args.end in
    let first = c.settle.ensures in
    let second = c.settle-2.ensures in
    record {
      arrivals = all_settled (closed_arrivals end) end.mouth c.requires.arrivals_ended c.settle.result.left first.p0 first.p1 first.p2 first.p3
          first.p4;
      requests = all_settled (closed_requests end) end.done.mouth c.requires.requests_ended c.settle-2.result.left second.p0 second.p1
          second.p2 second.p3 second.p4;
      frames = λ k feeder taker at at'.
          c.settle_rings.ensures.taken k feeder taker (ap (λ l. slice_get l k) c.deref_mut.ensures.value ∙ at)
          (ap (λ l. slice_get l k) c.deref_mut-2.ensures.value ∙ at');
      is = conclusion end c.both_done-first.result c.both_done-second.result c.both_done-noted.result c.both_done-first.ensures c.both_done-second.ensures
          c.both_done-noted.ensures c.concluded_of.result c.concluded_of.ensures.assembled c.concluded_of.ensures.noted;
    }
