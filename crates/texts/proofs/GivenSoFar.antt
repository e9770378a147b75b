-- What a receiver has given that has nothing left to do is all that comes of what was handed in.
use Rattle.std.proofs.Common.{◌≡◌, ℕ, ◌<◌, Bool, Option, Some, None, All, List, ◌++◌, length, map, refl, sym, ap, subst, ◌∙◌, arith}
use Rattle.std.specs.Prelude.{slice_get}
use Rattle.std.specs.Global.{Box}
use Rattle.std.specs.Box.{box_value}
use Rattle.std.proofs.lemmas.Option.{slice_get_within}
use Rattle.docsis_wire.proofs.StreamPlaces.{element_at}
use Rattle.docsis_wire.specs.declared.header_check.NoCheck.{NoCheck}
use Rattle.flow_records.specs.declared.record.FlowRecord.{FlowRecord}
use Rattle.flow_core.specs.Counts.{no_counts}
use Rattle.flow_core.specs.declared.counts.FlowCounts.{FlowCounts}
use Rattle.flow_core.proofs.FlowOutcomes.{drained-outcome}
use Rattle.lane.specs.Inputs.{AreAnswered}
use Rattle.loss_rule.specs.Rule.{Coming}
use Rattle.bonded_flows.specs.declared.bonded_flow.BondedFlow.{BondedFlow}
use Rattle.bonded_flows.specs.declared.flow_slot.FlowSlot.{FlowSlot}
use Rattle.bonded_flows.specs.ByRule.{HasGivenByRule}
use Rattle.bonded_flows.specs.FlowSetup.{FlowSetup}
use Rattle.bonded_flows.specs.Parts.{FlowInput, comes, Part, last_part, begun_at, GaveInParts}
use Rattle.bonded_flows.specs.Slots.{PartStands, SlotStands, IsAtRest}
use Rattle.bonded_flows.specs.Stands.{HasCome, IsSettled}
use Rattle.bonded_flows.specs.Table.{TableSetup, flow_setup, inputs_at}
use Rattle.bonded_flows.proofs.SettledFlows.{all-taken}
use Rattle.bonded_flows.proofs.SlotStates.{not-begun, begun, counted-nothing}
use Rattle.consumer.specs.declared.given.Given.{Given}
use Rattle.consumer.specs.Given.{frames_of}
use Rattle.receiver.specs.declared.receiver.Receiver.{Receiver}
use Rattle.receiver.specs.HandedIn.{HandedIn, flow_inputs, answered_on, lane_of}
use Rattle.receiver.specs.Receiving.{StandsFor, IsSettledAt}
use Rattle.receiver.proofs.TakenInOrder.{one-part_last, one-part_over}
use Rattle.texts.specs.AnyHeader.{any_header, no_check}
use Rattle.texts.specs.Happened.{IsOfTrace, HasGivenAll, IsGivenSoFar}
use Rattle.texts.proofs.GivenOfTrace.{all_come}

-- ---- one flow

-- a flow with nothing left to do has given what by the rule comes of all that came to it
flow_given : (check : List ℕ → Bool) (setup : FlowSetup) (bonded : BondedFlow) (comings : List Coming) (given : List (List ℕ))
    → HasCome check setup bonded comings given → IsSettled bonded → (counts : FlowCounts) × HasGivenByRule check setup comings given counts
flow_given check setup bonded comings given has settled =
    let taken = all-taken check setup bonded comings given has settled in (
      bonded.flow.counts,
      record {
        events = has.events;
        lasts = has.lasts;
        fates = has.fates;
        ruled = has.ruled;
        outcome = drained-outcome check setup.flow_record bonded.flow has.events taken.answers taken.y given taken.stands settled.up_to_date.drained;
      },
    )

-- so has one that wasn't begun, which is nothing
part_given : (check : List ℕ → Bool) (setup : FlowSetup) (slot : FlowSlot) (comings : List Coming) (given : List (List ℕ))
    → PartStands check setup slot comings given → IsAtRest slot → (counts : FlowCounts) × HasGivenByRule check setup comings given counts
part_given check setup slot comings given stands rests = by slot.flow refl where
  by : (flow : Option (Box BondedFlow)) → slot.flow ≡ flow → (counts : FlowCounts) × HasGivenByRule check setup comings given counts
  by None is = (no_counts, counted-nothing setup comings given (not-begun check setup slot comings given stands is) check)
  by (Some flow) is = flow_given check setup (box_value flow) comings given (begun check setup slot flow comings given stands is) (rests flow is)

-- a flow that never began anew has one part
slot_given : (check : List ℕ → Bool) (setup : FlowSetup) (slot : FlowSlot) (comings : List Coming) (given : List (List ℕ))
    → SlotStands check setup slot (map comes comings) given → IsAtRest slot → (counts : FlowCounts) × HasGivenByRule check setup comings given counts
slot_given check setup slot comings given stands rests =
    let nothing = subst (λ (parts : List Part). GaveInParts check setup parts stands.earlier) (one-part_over setup comings) stands.gave in
    let same : given ≡ stands.own = stands.all ∙ ap (λ (t : List (List ℕ)). t ++ stands.own) nothing in
    let part : PartStands check setup slot comings stands.own =
    subst (λ (part : Part). PartStands check (begun_at setup part.first) slot part.comings stands.own) (one-part_last setup comings) stands.part in
    let found = part_given check setup slot comings stands.own part rests in
    (found.0, subst (λ (frames : List (List ℕ)). HasGivenByRule check setup comings frames found.0) (sym same) found.1)

-- ---- all of them

module _ (receiver : Receiver NoCheck) (made : TableSetup) (channels : ℕ) (handed : List HandedIn) (given : List Given)
    (stands : StandsFor no_check receiver any_header made handed given) (each : All (IsOfTrace channels) handed) (settled : (k : ℕ) → IsSettledAt receiver k) where
  flow_of_trace : (k : ℕ) (flow_record : FlowRecord) → slice_get made.records k ≡ Some flow_record → HasGivenAll made handed given k flow_record
  flow_of_trace k flow_record of_record =
      let setup = flow_setup made k flow_record in
      let inputs = inputs_at k (flow_inputs (length made.records) handed) in
      let within = slice_get_within made.records k flow_record of_record in
      let count = stands.flows.flow_count in
      let slot = element_at receiver.flows.slots.items k (omega (arith, within, count)) in
      let found = all_come channels (length made.records) k handed each in
      let has = slot_given any_header setup slot.0 found.0 (frames_of k given)
      (subst (λ (t : List FlowInput). SlotStands any_header setup slot.0 t (frames_of k given)) found.1 (stands.flows.flows k flow_record slot.0 of_record slot.1))
      (settled k slot.0 slot.1) in
      let came_is : (last_part setup inputs).comings ≡ found.0 =
      ap (λ (t : List FlowInput). (last_part setup t).comings) found.1 ∙ ap (λ (part : Part). part.comings) (one-part_last setup found.0) in
      (has.0, subst (λ (comings : List Coming). HasGivenByRule any_header setup comings (frames_of k given) has.0) (sym came_is) has.1)

  lane_of_trace : (channel : ℕ) → channel < made.channels → AreAnswered (lane_of made channel) (answered_on channel handed)
  lane_of_trace channel below =
      let count = stands.lanes.count in
      let one = element_at receiver.lanes.items channel (omega (arith, below, count)) in
      (stands.lanes.each channel one.0 one.1).stands.answered

  pub given_so_far : IsGivenSoFar made handed given
  given_so_far = record { answered = lane_of_trace; requests = stands.lanes.requests; flows = flow_of_trace; others = stands.flows.others }
