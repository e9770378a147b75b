-- What was counted of flows, one after another.
use Rattle.std.proofs.Common.{◌≡◌, ◌≤◌, ◌<◌, ◌+◌, ℕ, Bool, true, false, Option, Some, None, List, [], ◌∷◌, ◌++◌, length, take, refl, sym, subst, ◌∙◌, arith}
use Rattle.std.specs.Prelude.{◌↔◌, IfSome, slice_get}
use Rattle.std.proofs.lemmas.List.{length-take-le}
use Rattle.flow_records.specs.declared.record.FlowRecord.{FlowRecord}
use Rattle.flow_core.specs.declared.counts.FlowCounts.{FlowCounts}
use Rattle.consumer.specs.declared.given.Given.{Given}
use Rattle.bonded_flows.specs.Table.{TableSetup}
use Rattle.receiver.specs.HandedIn.{HandedIn}
use Rattle.receiver.specs.Receiving.{IsSettledAt, HasGivenSince}
use Rattle.flow_selection.specs.Selection.{is_selected}
use Rattle.selected_receiver.specs.Whole.{StandsForWhole}
use Rattle.capture_summary.specs.Counting.{both_counts}
use Rattle.capture_summary.specs.declared.flow_summary.FlowSummary.{FlowSummary}
use Rattle.frame_engine.specs.Settings.{inner_accepts}
use Rattle.frame_engine.specs.declared.frame_reading.FrameReading.{FrameReading}
use Rattle.frame_engine.specs.Progress.{with_since, IsCountedSince, AreCounted, passed_over, one_flow}

module _ (reading : FrameReading) where
  -- what a receiver says of a flow is what was counted of it
  pub is-since : (flow : ℕ) (since : Option FlowCounts) → (since ≡ None ↔ (length reading.joining.flows.receiver.receiver.flows.slots.items ≤ flow))
      → IfSome since (λ counts. (check : List ℕ → Bool) (made : TableSetup) (handed : List HandedIn) (given : List Given) (flow_record : FlowRecord)
      → StandsForWhole inner_accepts reading.joining.flows.receiver check made handed given → slice_get made.records flow ≡ Some flow_record
      → IsSettledAt reading.joining.flows.receiver.receiver flow → is_selected reading.joining.flows.receiver.selected flow ≡ true → HasGivenSince check made flow flow_record handed given counts)
      → IsCountedSince reading flow since
  is-since flow None none some = none.0 refl
  is-since flow (Some since) none some = some

  -- one more flow was counted
  pub counted-more : (flows : List FlowSummary) (flow : ℕ) (one : FlowSummary) (since : Option FlowCounts) (joined : Bool) (counts counts' : FlowCounts) → flow < length flows
      → take (flow + 1) flows ≡ take flow flows ++ one ∷ [] → IsCountedSince reading flow since → joined ≡ is_selected reading.joining.flows.receiver.selected flow
      → (joined ≡ true → counts' ≡ with_since (both_counts counts one.counts) since) → (joined ≡ false → counts' ≡ counts)
      → AreCounted reading (take flow flows) counts → AreCounted reading (take (flow + 1) flows) counts'
  counted-more flows flow one since joined counts counts' within more is flag selected other was =
      subst (λ (some : List FlowSummary). AreCounted reading some counts') (sym more) (by_case joined refl) where
        place : length (take flow flows) ≡ flow
        place = length-take-le flow flows (omega (arith, within))

        since_is : IsCountedSince reading (length (take flow flows)) since
        since_is = subst (λ (k : ℕ). IsCountedSince reading k since) (sym place) is

        flag_is : (b : Bool) → joined ≡ b → is_selected reading.joining.flows.receiver.selected (length (take flow flows)) ≡ b
        flag_is b of = subst (λ (k : ℕ). is_selected reading.joining.flows.receiver.selected k ≡ b) (sym place) (sym flag ∙ of)

        by_case : (b : Bool) → joined ≡ b → AreCounted reading (take flow flows ++ one ∷ []) counts'
        by_case true of = subst (λ (all : FlowCounts). AreCounted reading (take flow flows ++ one ∷ []) all) (sym (selected of)) (one_flow one since was (flag_is true of) since_is)
        by_case false of = subst (λ (all : FlowCounts). AreCounted reading (take flow flows ++ one ∷ []) all) (sym (other of)) (passed_over one was (flag_is false of))
