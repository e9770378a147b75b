-- A receiver of which nothing is left to be done has given all that is given for the whole for
-- which it stands.
use Rattle.std.proofs.Common.{◌≡◌, ℕ, ◌<◌, Bool, true, false, Option, Some, None, List, length, refl, sym, subst, ◌∙◌, arith}
use Rattle.std.specs.Prelude.{slice_get}
use Rattle.std.specs.Global.{Box}
use Rattle.std.specs.Box.{box_value}
use Rattle.docsis_wire.proofs.StreamPlaces.{element_at}
use Rattle.std.proofs.lemmas.Option.{slice_get_within}
use Rattle.flow_records.specs.declared.record.FlowRecord.{FlowRecord}
use Rattle.flow_records.specs.Setup.{IsInRange}
use Rattle.flow_selection.specs.Selection.{is_selected}
use Rattle.flow_core.specs.declared.counts.FlowCounts.{FlowCounts}
use Rattle.flow_core.specs.Counts.{no_counts}
use Rattle.flow_core.proofs.FlowOutcomes.{drained-outcome}
use Rattle.loss_rule.specs.Rule.{Coming}
use Rattle.consumer.specs.declared.given.Given.{Given}
use Rattle.consumer.specs.Given.{frames_of}
use Rattle.bonded_flows.specs.declared.bonded_flow.BondedFlow.{BondedFlow}
use Rattle.bonded_flows.specs.declared.flow_slot.FlowSlot.{FlowSlot}
use Rattle.bonded_flows.specs.ByRule.{HasGivenByRule}
use Rattle.bonded_flows.specs.FlowSetup.{FlowSetup}
use Rattle.bonded_flows.specs.Parts.{FlowInput, last_part, begun_at}
use Rattle.bonded_flows.specs.Slots.{PartStands, SlotStands, IsAtRest}
use Rattle.bonded_flows.specs.Table.{TableSetup, flow_setup, inputs_at}
use Rattle.bonded_flows.proofs.SettledFlows.{all-taken}
use Rattle.bonded_flows.proofs.SlotStates.{not-begun, begun, counted-nothing}
use Rattle.receiver.specs.HandedIn.{HandedIn, answered_on, flow_inputs, begun_with}
use Rattle.receiver.specs.Receiving.{IsSettledAt}
use Rattle.answers.proofs.OtherItems.{requests-same}
use Rattle.selected_receiver.specs.declared.selected_receiver.SelectedReceiver.{SelectedReceiver}
use Rattle.selected_receiver.specs.Given.{HasGivenParts, IsAllGiven}
use Rattle.selected_receiver.specs.Whole.{GivesParts, StandsForWhole}
use Rattle.selected_receiver.proofs.AlikeWhole.{parts-alike}
use Rattle.selected_receiver.proofs.InTheirPlace.{answers-for, inputs-for}

-- ---- one flow

module _ (check : List ℕ → Bool) (setup : FlowSetup) (slot : FlowSlot) (comings : List Coming) (given : List (List ℕ)) (stands : PartStands check setup slot comings given) where
  -- a flow of which nothing is left to be done has given what the definitions say
  rests-begun : (flow : Box BondedFlow) → slot.flow ≡ Some flow → IsAtRest slot → (counts : FlowCounts) × HasGivenByRule check setup comings given counts
  rests-begun flow some rests =
      let bonded = box_value flow in
      let settled = rests flow some in
      let has = begun check setup slot flow comings given stands some in
      let taken = all-taken check setup bonded comings given has settled in (
        bonded.flow.counts,
        record {
          events = has.events;
          lasts = has.lasts;
          fates = has.fates;
          ruled = has.ruled;
          outcome = drained-outcome check setup.flow_record bonded.flow has.events taken.answers taken.y given taken.stands settled.up_to_date.drained;
        },
      )

  -- so has one that wasn't begun
  part-given : IsAtRest slot → (counts : FlowCounts) × HasGivenByRule check setup comings given counts
  part-given rests = by_flow slot.flow refl where
    by_flow : (flow : Option (Box BondedFlow)) → slot.flow ≡ flow → (counts : FlowCounts) × HasGivenByRule check setup comings given counts
    by_flow None none = (no_counts, counted-nothing setup comings given (not-begun check setup slot comings given stands none) check)
    by_flow (Some flow) some = rests-begun flow some rests

-- what its slot stands for it has given
slot-given : (check : List ℕ → Bool) (setup : FlowSetup) (slot : FlowSlot) (inputs : List FlowInput) (given : List (List ℕ)) → SlotStands check setup slot inputs given → IsAtRest slot
    → HasGivenParts check setup inputs given
slot-given check setup slot inputs given stands rests =
    let last = part-given check (begun_at setup (last_part setup inputs).first) slot (last_part setup inputs).comings stands.own stands.part rests in
    record { earlier = stands.earlier; own = stands.own; counts = last.0; gave = stands.gave; last = last.1; all = stands.all }

-- a flow that isn't joined has given all at once
given-parts : (check : List ℕ → Bool) (setup : FlowSetup) (inputs : List FlowInput) (frames : List (List ℕ)) → GivesParts check setup inputs frames → HasGivenParts check setup inputs frames
given-parts check setup inputs frames was =
    record { earlier = was.earlier; own = was.own; counts = was.gives.counts; gave = was.gave; last = was.gives.given; all = was.all }

-- ---- all flows

module _ {C : Type 0} (accepts : C → List ℕ → Bool) (receiver : SelectedReceiver C) (check : List ℕ → Bool) (made : TableSetup) (handed : List HandedIn) (given : List Given)
    (is : StandsForWhole accepts receiver check made handed given) (settled : (j : ℕ) → IsSettledAt receiver.receiver j) where
  abbrev chosen : ℕ → Bool
  chosen = is_selected receiver.selected

  abbrev inputs_to : ℕ → List HandedIn → List FlowInput
  inputs_to k these = inputs_at k (flow_inputs (length made.records) these)

  -- a selected flow by what its slot stands for
  selected-given : (k : ℕ) (flow_record : FlowRecord) → chosen k ≡ true → slice_get made.records k ≡ Some flow_record
      → HasGivenParts check (flow_setup made k flow_record) (inputs_to k handed) (frames_of k given)
  selected-given k flow_record selected there =
      let slots = receiver.receiver.flows.slots.items in
      let setup = flow_setup made k flow_record in
      let within = slice_get_within made.records k flow_record there in
      let count = is.stands.flows.flow_count in
      let inside : k < length slots = omega arith in
      let found = element_at slots k inside in
      let theirs = slot-given check setup found.0 (inputs_to k is.others) (frames_of k is.also) (is.stands.flows.flows k flow_record found.0 there found.1) (settled k found.0 found.1) in
      subst (λ (frames : List (List ℕ)). HasGivenParts check setup (inputs_to k handed) frames) (sym (is.whole.of_selected k selected))
      (subst (λ (inputs : List FlowInput). HasGivenParts check setup inputs (frames_of k is.also))
      (sym (inputs-for chosen k selected (length made.records) is.others handed is.whole.stand_ins)) theirs)

  flows-given : (k : ℕ) (flow_record : FlowRecord) → slice_get made.records k ≡ Some flow_record
      → HasGivenParts check (flow_setup made k flow_record) (inputs_to k handed) (frames_of k given)
  flows-given k flow_record there = by_flag (chosen k) refl where
    by_flag : (b : Bool) → chosen k ≡ b → HasGivenParts check (flow_setup made k flow_record) (inputs_to k handed) (frames_of k given)
    by_flag true selected = selected-given k flow_record selected there
    by_flag false left = given-parts check (flow_setup made k flow_record) (inputs_to k handed) (frames_of k given) (is.whole.of_others k flow_record left there)

  -- each record is in range, also with the number at which its flow began anew
  range-given : (k : ℕ) (flow_record : FlowRecord) → slice_get made.records k ≡ Some flow_record
      → IsInRange (begun_with made k flow_record (flow_inputs (length made.records) handed)).flow_record
  range-given k flow_record there =
      let setup = flow_setup made k flow_record in
      let within = slice_get_within made.records k flow_record there in
      let count = is.stands.flows.flow_count in
      let inside : k < length receiver.receiver.flows.slots.items = omega arith in
      let found = element_at receiver.receiver.flows.slots.items k inside in
      let stands = is.stands.flows.flows k flow_record found.0 there found.1 in
      let alike = parts-alike chosen is.others handed is.whole.stand_ins setup k (length made.records) in
      subst (λ (first : ℕ). IsInRange (begun_at setup first).flow_record) (sym alike.first) stands.part.in_range

  -- so all is given that is given for the whole
  pub all-given : IsAllGiven check made handed given
  all-given = record {
    answered = is.whole.answered;
    requests = λ channel.
        is.whole.requests channel ∙ is.stands.lanes.requests channel
        ∙ sym (requests-same chosen (answered_on channel is.others) (answered_on channel handed) (answers-for chosen is.others handed is.whole.stand_ins channel));
    flows = flows-given;
    others = is.whole.of_none;
    rows_fit = is.stands.lanes.rows_fit;
    in_range = range-given;
  }
