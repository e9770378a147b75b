use Rattle.std.proofs.Common.{◌≡◌, ◌++◌, ◌+◌, length, ℕ, Bool, List, [], append_assoc, sym, subst, ap, ◌∙◌, arith}
use Rattle.std.proofs.lemmas.List.{append-nil}
use Rattle.std.proofs.lemmas.Option.{same_Some, slice_get_within}
use Rattle.docsis_wire.proofs.StreamPlaces.{element_at}
use Rattle.delivery.specs.Feeders.{closed_offered}
use Rattle.delivery.specs.Takers.{taken}
use Rattle.docsis_wire.specs.declared.segment.Segment.{Segment}
use Rattle.docsis_wire.specs.Cut.{IsLawfulCut}
use Rattle.flow_records.specs.declared.record.FlowRecord.{FlowRecord}
use Rattle.flow_core.specs.declared.counts.FlowCounts.{FlowCounts}
use Rattle.consumer.specs.Given.{frames_of}
use Rattle.flow_core.specs.Closing.{IsAllKept}
use Rattle.flow_core.specs.Events.{FlowEvent}
use Rattle.flow_core.specs.Near.{AreNear}
use Rattle.ccf.specs.Filter.{FiltersTo}
use Rattle.receiver.specs.Outcome.{GivesAtItsClose, IsOutcomeOfFlow}
use Rattle.receiver.specs.Items.{events_at, items_of}
use Rattle.receiver.specs.Ruled.{ruled_flow, comings_at}
use Rattle.receiver.proofs.MergedLists.{merge-lawful, times-picked}
use Rattle.flow_records.specs.declared.event.Event.{Event}
use Rattle.uplink.specs.Channels.{items_within, IsMergeWithin, IsLawfulWithin, ruled_within}
use Rattle.uplink.specs.Headline.{TookTheDeliverySequence}
use Rattle.uplink.proofs.laws.consumers_take_the_delivery_sequence.Goals as goal
use Rattle.uplink.proofs.laws.consumers_take_the_delivery_sequence.Goals.{After-ruled_events_are_one}

-- what a closed flow gave is the delivery sequence of its events, with the gaps of its close
module _ (c : After-ruled_events_are_one) (check : List ℕ → Bool) (fill : ℕ) (r : FlowRecord) (frames chunks : List (List ℕ)) (segments : List Segment)
    (cut : IsLawfulCut check frames r.first fill chunks segments) (events : List FlowEvent) (near : AreNear r.first r.window segments events)
    (given : List (List ℕ)) (counts : FlowCounts) (gives : GivesAtItsClose check r events given counts) where
  all-kept : FiltersTo (IsAllKept frames chunks gives.outcome.fates) frames given
  all-kept =
      c.closed_flow_gives_the_frames_that_were_all_kept.ensures check frames chunks fill gives.n segments r events given counts cut near
      gives.outcome gives.closed

  took-all : TookTheDeliverySequence frames chunks r events given
  took-all = record {
    gaps = gives.n;
    answers = gives.outcome.answers;
    fates = gives.outcome.fates;
    after = gives.outcome.after;
    closed = gives.closed;
    sequence = (c.closed_flow_has_come_past_all_kept.ensures.sequence frames chunks given gives.outcome.fates gives.closed).1 all-kept;
    all_kept = all-kept;
  }

pub returns-clause-headline : goal.returns-clause-headline
returns-clause-headline c = λ check setup incoming order outcome is.
    record {
      intake = is.intake;
      lawful = merge-lawful (items_of setup incoming is.intake.answered) order is.intake.items is.intake.merged;
      flow_count = is.flows.count;
      delivered = λ k fill r flow frames chunks segments at given cut near.
          let events = events_at k is.intake.items in
          let found = is.flows.each k r at in
          let same : found.0 ≡ flow = same_Some found.0 flow (sym found.1 ∙ given) in
          took-all c check fill r frames chunks segments cut events near flow.frames.items flow.counts (subst (IsOutcomeOfFlow check r events) same found.2).gives;
      requested = λ channel below. is.requests channel below;
    }

pub returns-clause-by_rule : goal.returns-clause-by_rule
returns-clause-by_rule c = λ rule check setup incoming order outcome is.
    record {
      intake = is.intake;
      lawful = merge-lawful (items_of setup incoming is.intake.answered) order is.intake.items is.intake.merged;
      flow_count = is.flows.count;
      delivered = λ k fill r flow frames chunks segments events lasts fates at given ruled cut near.
          let found = is.flows.each k r at in
          let own = found.2 in
          let same : found.0 ≡ flow = same_Some found.0 flow (sym found.1 ∙ given) in
          let one : own.events ≡ events =
          (c.ruled_events_are_one.ensures.only rule (ruled_flow setup.sids.items k r) (comings_at k order is.intake.items) own.events events own.lasts lasts own.fates fates
          own.ruled ruled).0 in
          took-all c check fill r frames chunks segments cut events near flow.frames.items flow.counts
          (subst (λ (e : List FlowEvent). IsOutcomeOfFlow check r e flow) one (subst (IsOutcomeOfFlow check r own.events) same own.gave)).gives;
      requested = λ channel below. is.requests channel below;
    }

-- the order of a merge of so many lists is lawful
lawful-within : (senders : ℕ) (lists : ℕ → List Event) (order : List ℕ) (items : List Event) → IsMergeWithin senders lists order items → IsLawfulWithin senders lists order
lawful-within senders lists order items is = record {
  named = is.named;
  whole = λ sender below. times-picked sender order items is.paired ∙ ap length (is.lists_are sender below);
}

pub returns-clause-given : goal.returns-clause-given
returns-clause-given c = λ channels rule check setup incoming order frames requests counts tallies is.
    record {
      intake = is.intake;
      lawful = lawful-within (channels + 1) (items_within channels setup incoming is.intake.answered) order is.intake.items is.intake.merged;
      delivered = λ k fill r whole chunks segments events lasts fates at ruled cut near.
          let within = slice_get_within setup.flows.items k r at in
          let count = element_at counts k (let many = is.flow_count in omega arith) in
          let own = is.flows k r count.0 at count.1 in
          let one : own.events ≡ events =
          (c.ruled_events_are_one.ensures.only rule (ruled_within channels setup.sids.items k r) (comings_at k order is.intake.items) own.events events own.lasts lasts own.fates fates
          own.ruled ruled).0 in
          took-all c check fill r whole chunks segments cut events near (frames_of k frames) count.0
          (subst (λ (e : List FlowEvent). GivesAtItsClose check r e (frames_of k frames) count.0) one own.gives);
      requested = is.requested;
    }

-- what was taken is a prefix of what was offered, that of what the flow gave, that of the delivery
-- sequence so far, and that of a later one
taken-prefix : {X : Type 0} (later now given offered taken more ahead unoffered rest : List X) → later ≡ now ++ more → now ≡ given ++ ahead
    → given ≡ offered ++ unoffered → offered ≡ taken ++ rest → later ≡ taken ++ (rest ++ (unoffered ++ (ahead ++ more)))
taken-prefix later now given offered taken more ahead unoffered rest grown given_ahead offered_part whole =
    grown ∙ ap (λ l. l ++ more) given_ahead ∙ append_assoc given ahead more
    ∙ ap (λ l. l ++ (ahead ++ more)) (offered_part ∙ ap (λ l. l ++ unoffered) whole ∙ append_assoc taken rest unoffered)
    ∙ append_assoc taken (rest ++ unoffered) (ahead ++ more) ∙ ap (λ l. taken ++ l) (append_assoc rest unoffered (ahead ++ more))

pub returns-clause-prefix : goal.returns-clause-prefix
returns-clause-prefix c = λ check fill flow_record frames chunks given unoffered later segments events more counts answers fates feeder taker left cut near gave part is_left after sequence.
    let now = c.outcome_of_near_events_is_the_delivery_sequence.ensures check frames chunks fill segments flow_record events gave.answers given counts gave.fates cut
    near gave gave.after in
    let grown = c.delivery_sequence_only_grows.ensures check frames chunks flow_record.first flow_record.window events more gave.answers answers gave.fates fates given
    later cut.each gave.after after now sequence in (
      is_left.rest ++ (unoffered ++ ([] ++ grown.0)),
      taken-prefix later given given (closed_offered feeder) (taken taker) grown.0 [] unoffered is_left.rest grown.1 (sym (append-nil given)) part is_left.whole,
    )

pub returns-clause-prefix_before_drained : goal.returns-clause-prefix_before_drained
returns-clause-prefix_before_drained c = λ check fill flow_record frames chunks given unoffered later segments flow events more before answers y fates feeder taker left cut near stands part is_left after sequence.
    let ahead = c.flow_gives_the_delivery_sequence.ensures.ahead check frames chunks fill segments flow_record flow events before y given stands.fates cut near stands
    stands.after in
    let grown = c.delivery_sequence_only_grows.ensures check frames chunks flow_record.first flow_record.window events more before answers stands.fates fates ahead.0
    later cut.each stands.after after ahead.1 sequence in (
      is_left.rest ++ (unoffered ++ (ahead.2.0 ++ grown.0)),
      taken-prefix later ahead.0 given (closed_offered feeder) (taken taker) grown.0 ahead.2.0 unoffered is_left.rest grown.1 ahead.2.1 part is_left.whole,
    )
