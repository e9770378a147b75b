-- What follows for a flow from the events that it stands for.
use Rattle.std.proofs.Common.{◌≡◌, ℕ, ◌≤◌, inl, inr, Bool, Option, None, Some, List, ◌++◌, refl, ap, sym, subst, ◌∙◌, arith}
use Rattle.std.specs.List.{AllByRecursion}
use Rattle.std.specs.Option.{option_map, option_flatten}
use Rattle.docsis_wire.specs.declared.segment.Segment.{Segment}
use Rattle.docsis_wire.specs.declared.segment.ReadySegment.{ReadySegment}
use Rattle.docsis_wire.specs.Frame.{IsFrame}
use Rattle.docsis_wire.specs.Cut.{IsLawfulCut}
use Rattle.ccf.specs.Filter.{FiltersTo}
use Rattle.reorder.specs.View.{held_at}
use Rattle.flow_records.specs.declared.record.FlowRecord.{FlowRecord}
use Rattle.flow_core.specs.declared.flow.Flow.{Flow}
use Rattle.flow_core.specs.declared.event.Applied.{Applied}
use Rattle.flow_core.specs.Fates.{Fates, kept_at, IsExpected}
use Rattle.flow_core.specs.Events.{FlowEvent, IsAfter}
use Rattle.flow_core.specs.Near.{AreNear}
use Rattle.flow_core.specs.Delivery.{IsDelivered, IsDeliverySequence}
use Rattle.flow_core.specs.Stands.{StandsFor, IsDrained}
use Rattle.flow_core.proofs.Outcome.{expected-unique}
use Rattle.flow_core.proofs.OneFates.{after-once}
use Rattle.flow_core.proofs.Nearness.{AreOfIndex, numbered_of_cut, of_index-after}
use Rattle.flow_core.proofs.Deliveries.{delivered_is_front}
use Rattle.flow_core.proofs.Sequences.{sequence-some}

-- where nothing is mapped, nothing is there
nothing_there : {T U : Type 0} (f : T → U) (o : Option T) → option_map f o ≡ None → o ≡ None
nothing_there f None e = refl
nothing_there f (Some x) e = absurd cc

module _ (check : List ℕ → Bool) (flow_record : FlowRecord) (flow : Flow) (events : List FlowEvent) (answers : List Applied) (y : ℕ) (given : List (List ℕ))
    (s : StandsFor check flow_record flow events answers y given) where
  -- these are the fates after the events
  pub same_fates : (fates : Fates) → IsAfter flow_record.first flow_record.window events answers fates → s.fates ≡ fates
  same_fates fates is = (after-once flow_record.first flow_record.window events answers answers s.fates fates s.after is).1

  -- the window holds under its expected number what was kept of the index that the flow has come to
  held_next : option_map (λ (ready : ReadySegment). ready.segment) (held_at flow.window flow.window.expected) ≡ kept_at s.fates y
  held_next =
      subst (λ n. option_map (λ (ready : ReadySegment). ready.segment) (held_at flow.window n) ≡ kept_at s.fates y) (sym s.window.number)
      (s.window.holds y (omega arith) (omega arith))

  -- a drained flow has come to its expected index
  pub expected_of_drained : IsDrained flow → IsExpected s.fates y
  expected_of_drained drained =
      elim s.come_to [
        | inl same ↦ subst (IsExpected s.fates) (sym same) s.expected
        | inr (less, kept) ↦
            let none : None ≡ Some kept.0 = sym (ap (option_map (λ (ready : ReadySegment). ready.segment)) drained) ∙ held_next ∙ ap option_flatten kept.1 in
            absurd cc
      ]

  -- and a flow that has come to it is drained
  pub drained_of_expected : IsExpected s.fates y → IsDrained flow
  drained_of_expected expected =
      nothing_there (λ (ready : ReadySegment). ready.segment) (held_at flow.window flow.window.expected) (held_next ∙ ap option_flatten expected.open_itself)

  -- the expected index is not behind
  onward : (x : ℕ) → IsExpected s.fates x → y ≤ x
  onward x expected =
      let same = expected-unique s.fates s.x x s.expected expected in
      elim s.come_to [ inl is ↦ omega arith | inr (less, kept) ↦ omega arith ]

  module _ (frames chunks : List (List ℕ)) (fill : ℕ) (segments : List Segment) (cut : IsLawfulCut check frames flow_record.first fill chunks segments)
      (near : AreNear flow_record.first flow_record.window segments events) where
    -- each kept segment is the cut's segment with its index
    pub kept_of_cut : AreOfIndex segments s.fates
    kept_of_cut =
        of_index-after flow_record.first flow_record.window segments events answers s.fates
        (numbered_of_cut check frames chunks flow_record.first fill segments cut)
        (λ before behind segment so_far fates x e is expected _. near before behind segment so_far fates x e is expected) s.after

  module _ (frames chunks : List (List ℕ)) (fates : Fates) (is : IsAfter flow_record.first flow_record.window events answers fates)
      (filters : FiltersTo (IsDelivered frames chunks s.fates y) frames given) where
    -- what a drained flow gave is the delivery sequence
    pub drained_sequence : IsDrained flow → IsDeliverySequence frames chunks fates given
    drained_sequence drained =
        subst (λ (f : Fates). IsDeliverySequence frames chunks f given) (same_fates fates is) (y, expected_of_drained drained, filters)

    -- and what any flow gave is a front of it
    front_of_sequence : AllByRecursion (IsFrame check) frames → (sequence : List (List ℕ)) → IsDeliverySequence frames chunks fates sequence
        → (rest : List (List ℕ)) × (sequence ≡ given ++ rest)
    front_of_sequence each sequence delivered =
        let all = subst (λ (f : Fates). IsDeliverySequence frames chunks f sequence) (sym (same_fates fates is)) delivered in
        let further = onward all.0 all.1 in
        delivered_is_front check frames chunks s.fates s.fates y all.0 given sequence each further (λ i below. all.1.settled i (omega arith)) (λ i fate at. at) filters all.2

    -- which there is
    pub sequence_ahead : AllByRecursion (IsFrame check) frames
        → (sequence : List (List ℕ)) × IsDeliverySequence frames chunks fates sequence × ((rest : List (List ℕ)) × (sequence ≡ given ++ rest))
    sequence_ahead each =
        let all = sequence-some check frames chunks fates s.x each (subst (λ (f : Fates). IsExpected f s.x) (same_fates fates is) s.expected) in
        (all.0, all.1, front_of_sequence each all.0 all.1)
