-- All flows are closed, one after another.
use Rattle.std.proofs.Common.{◌≡◌, ℕ, suc, ◌<◌, ⊎_elim, Bool, Some, List, [], ◌∷◌, ◌++◌, length, map, slice_get, ap, sym, subst, ◌∙◌, append_assoc, append-nil, arith}
use Rattle.std.proofs.lemmas.List.{length_push}
use Rattle.std.proofs.lemmas.Option.{same_Some, slice_get_within}
use Rattle.docsis_wire.proofs.StreamPlaces.{element_at}
use Rattle.flow_records.specs.declared.record.FlowRecord.{FlowRecord}
use Rattle.flow_core.specs.declared.counts.FlowCounts.{FlowCounts}
use Rattle.lane.proofs.LaneTaking.{from-pushed}
use Rattle.consumer.specs.declared.given.Given.{Given}
use Rattle.consumer.specs.declared.given.Given.TheVariants.{Frame}
use Rattle.consumer.specs.Given.{frames_of}
use Rattle.bonded_flows.specs.declared.flow_slot.FlowSlot.{FlowSlot}
use Rattle.bonded_flows.specs.declared.flow_table.FlowTable.{FlowTable}
use Rattle.bonded_flows.specs.FlowSetup.{FlowSetup}
use Rattle.bonded_flows.specs.ByRule.{GaveByRule}
use Rattle.bonded_flows.specs.Parts.{FlowInput, begins_anew, last_part, begun_at}
use Rattle.bonded_flows.specs.Slots.{SlotStands, PartStands}
use Rattle.bonded_flows.specs.Table.{TableSetup, TableInput, flow_setup, inputs_at, StandsFor, IsInUse, TakesMore, BeginsAnewAt}
use Rattle.bonded_flows.proofs.TableTurns.{frames-own, frames-others}
use Rattle.receiver.specs.Received.{GaveAllParts, closings}
use Rattle.receiver.proofs.ClosedFlows.{still-open}
use Rattle.uplink.specs.declared.feeding.Feeding.{Feeding}
use Rattle.uplink.specs.Inside.Feeding.{HasOffered}
use Rattle.uplink.specs.Inside.Offering.{GaveAll, ClosesFlows, HaveClosed, ClosesFirst}
use Rattle.uplink.proofs.FramesOffered.{none-offered}

module _ {C O : Type 0} (accepts : C → List ℕ → Bool) (after : O → List Given → O → Type 0) (flows0 : FlowTable C) (out0 : O) where
  -- the flows so far are closed, and what that gave was given to the consumer
  pub record ClosesSoFar (flows : FlowTable C) (out : O) (counts : List FlowCounts) : Type 0 where
    pub more : List Given
    pub was_given : (start : O) (given : List Given) → after start given out0 → after start (given ++ more) out
    pub closed : (check : List ℕ → Bool) (setup : TableSetup) (history : List TableInput) (given : List Given)
        → StandsFor accepts flows0 check setup history given → HaveClosed accepts flows check setup history (given ++ more) counts

  -- none is closed yet
  pub none-closed : ClosesSoFar flows0 out0 []
  none-closed = record {
    more = [];
    was_given = λ start given was. subst (λ g. after start g out0) (sym (append-nil given)) was;
    closed = λ check setup history given stands. record {
      stands =
          subst (λ h. StandsFor accepts flows0 check setup h (given ++ [])) (sym (append-nil history))
          (subst (λ g. StandsFor accepts flows0 check setup history g) (sym (append-nil given)) stands);
      gave = λ k flow_record count of_record there. let within = slice_get_within [] k count there in absurd (omega arith);
    };
  }

  -- there are as many flows as at first
  pub as-many : (flows : FlowTable C) (out : O) (counts : List FlowCounts) → IsInUse accepts flows0 → ClosesSoFar flows out counts
      → length flows.slots.items ≡ length flows0.slots.items
  as-many flows out counts in_use so_far =
      (so_far.closed in_use.check in_use.made in_use.history in_use.given in_use.stands).stands.flow_count ∙ sym in_use.stands.flow_count

  module _ (flows flows' : FlowTable C) (out out' : O) (counts : List FlowCounts) (so_far : ClosesSoFar flows out counts) (count : FlowCounts)
      (anew : BeginsAnewAt after accepts flows out (length counts) 0 count flows' out') (inside : length counts < length flows.slots.items) where
    abbrev n : ℕ
    n = length counts

    abbrev counts' : List FlowCounts
    counts' = counts ++ count ∷ []

    abbrev gave_more : List Given
    gave_more = map (Frame n) anew.more

    module _ (check : List ℕ → Bool) (setup : TableSetup) (history : List TableInput) (given : List Given)
        (have : HaveClosed accepts flows check setup history given counts) where
      -- the next flow gave all
      next-gave : (flow_record : FlowRecord) → slice_get setup.records n ≡ Some flow_record
          → GaveAllParts check (flow_setup setup n flow_record) (inputs_at n history) (frames_of n (given ++ gave_more)) count
      next-gave flow_record of_record =
          let made : FlowSetup = flow_setup setup n flow_record in
          let slot = element_at flows.slots.items n inside in
          let stands : SlotStands check made slot.0 (inputs_at n history) (frames_of n given) =
          subst (λ (inputs : List FlowInput). SlotStands check made slot.0 inputs (frames_of n given)) (still-open n n history (omega arith))
          (have.stands.flows n flow_record slot.0 of_record slot.1) in
          let begun : FlowSetup = begun_at made (last_part made (inputs_at n history)).first in
          let part : PartStands (accepts flows.check) begun slot.0 (last_part made (inputs_at n history)).comings stands.own =
          subst (λ (c : List ℕ → Bool). PartStands c begun slot.0 (last_part made (inputs_at n history)).comings stands.own) (sym have.stands.check_is) stands.part in
          record {
            earlier = stands.earlier;
            own = stands.own ++ anew.more;
            gave = stands.gave;
            last =
                subst (λ (c : List ℕ → Bool). GaveByRule c begun (last_part made (inputs_at n history)).comings (stands.own ++ anew.more) count) have.stands.check_is
                (anew.gave begun (last_part made (inputs_at n history)).comings stands.own
                (λ one there. subst (λ (s : FlowSlot). PartStands (accepts flows.check) begun s (last_part made (inputs_at n history)).comings stands.own)
                (same_Some slot.0 one (sym slot.1 ∙ there)) part));
            all = frames-own n history [] given anew.more ∙ ap (λ frames. frames ++ anew.more) stands.all ∙ append_assoc stands.earlier stands.own anew.more;
          }

      -- and so did each before it
      all-gave : GaveAll check setup history (given ++ gave_more) counts'
      all-gave k flow_record one of_record there =
          ⊎_elim
          (λ before.
          let within = slice_get_within counts k one before in
          subst (λ (frames : List (List ℕ)). GaveAllParts check (flow_setup setup k flow_record) (inputs_at k history) frames one)
          (sym (frames-others n history [] given anew.more k (λ same. absurd (omega arith))))
          (have.gave k flow_record one of_record before))
          (λ last.
          subst (λ (m : ℕ). slice_get setup.records m ≡ Some flow_record → GaveAllParts check (flow_setup setup m flow_record) (inputs_at m history) (frames_of m (given ++ gave_more)) one) (sym last.0)
          (λ own. subst (λ (c : FlowCounts). GaveAllParts check (flow_setup setup n flow_record) (inputs_at n history) (frames_of n (given ++ gave_more)) c) (sym last.1) (next-gave flow_record own))
          of_record)
          (from-pushed counts count k one there)

      one-more-closed : HaveClosed accepts flows' check setup history (given ++ gave_more) counts'
      one-more-closed = record {
        stands =
            let many : length counts' ≡ suc n = length_push counts count ∙ omega arith in
            subst (λ m. StandsFor accepts flows' check setup (history ++ closings m) (given ++ gave_more)) (sym many)
            (subst (λ h. StandsFor accepts flows' check setup h (given ++ gave_more))
            (append_assoc history (closings n) (record { flow = n; input = begins_anew 0 } ∷ []))
            (anew.stands check setup (history ++ closings n) given have.stands));
        gave = all-gave;
      }

    -- one flow more is closed
    pub next-closed : ClosesSoFar flows' out' counts'
    next-closed = record {
      more = so_far.more ++ gave_more;
      was_given = λ start given was.
          subst (λ g. after start g out') (append_assoc given so_far.more gave_more)
          (anew.was_given start (given ++ so_far.more) (so_far.was_given start given was));
      closed = λ check setup history given stands.
          subst (λ g. HaveClosed accepts flows' check setup history g counts') (append_assoc given so_far.more gave_more)
          (one-more-closed check setup history (given ++ so_far.more) (so_far.closed check setup history given stands));
    }

module _ {C : Type 0} (accepts : C → List ℕ → Bool) (flows0 flows : FlowTable C) (feeding0 feeding : Feeding) (counts : List FlowCounts)
    (so_far : ClosesSoFar accepts HasOffered flows0 feeding0 flows feeding counts) where
  -- what that gave was offered
  pub closing-offered : HasOffered feeding0 so_far.more feeding
  closing-offered = so_far.was_given feeding0 [] (none-offered feeding0)

  -- all are closed
  pub all-closed : length counts ≡ length flows0.slots.items → ClosesFlows accepts flows0 feeding0 counts feeding
  all-closed count = record {
    more = so_far.more;
    offered = closing-offered;
    count = count;
    gave = λ check setup history given stands. (so_far.closed check setup history given stands).gave;
  }

  -- some are, and the others aren't
  pub some-closed : ClosesFirst accepts flows0 feeding0 feeding
  some-closed = record { flows' = flows; counts = counts; more = so_far.more; offered = closing-offered; closed = so_far.closed }

  -- and one more gave a part of what it had to give
  pub closed-in-part : (flows' : FlowTable C) (feeding' : Feeding) → TakesMore HasOffered accepts flows feeding (length counts) [] flows' feeding'
      → ClosesFirst accepts flows0 feeding0 feeding'
  closed-in-part flows' feeding' takes =
      let n = length counts in
      let more = map (Frame n) takes.more in
      record {
        flows' = flows';
        counts = counts;
        more = so_far.more ++ more;
        offered = takes.was_given feeding0 so_far.more closing-offered;
        closed = λ check setup history given stands.
            let have = so_far.closed check setup history given stands in
            let all = append_assoc given so_far.more more in
            record {
              stands =
                  subst (λ g. StandsFor accepts flows' check setup (history ++ closings n) g) all
                  (subst (λ h. StandsFor accepts flows' check setup h ((given ++ so_far.more) ++ more)) (append-nil (history ++ closings n))
                  (takes.stands check setup (history ++ closings n) (given ++ so_far.more) have.stands));
              gave = λ k flow_record count of_record there.
                  let within = slice_get_within counts k count there in
                  subst (λ g. GaveAllParts check (flow_setup setup k flow_record) (inputs_at k history) (frames_of k g) count) all
                  (subst (λ (frames : List (List ℕ)). GaveAllParts check (flow_setup setup k flow_record) (inputs_at k history) frames count)
                  (sym (frames-others n history [] (given ++ so_far.more) takes.more k (λ same. absurd (omega arith))))
                  (have.gave k flow_record count of_record there));
            };
      }
