-- A table to which nothing came yet.
use Rattle.std.proofs.Common.{◌≡◌, ℕ, zero, suc, ◌<◌, ◌≤◌, inl, inr, Bool, Option, Some, List, [], ◌∷◌, ◌++◌, length, take, slice_get, refl, ap, sym, subst, ◌∙◌, arith}
use Rattle.std.proofs.lemmas.Bool.{cases_lt}
use Rattle.std.proofs.lemmas.Option.{same_Some, slice_get_within}
use Rattle.std.proofs.lemmas.List.{length-append}
use Rattle.std.specs.Global.{Box}
use Rattle.docsis_wire.proofs.StreamPlaces.{slice_get-at}
use Rattle.flow_core.specs.Events.{skip_to}
use Rattle.flow_core.proofs.Turns.{gaps-no_arrival}
use Rattle.flow_records.specs.declared.record.FlowRecord.{FlowRecord}
use Rattle.flow_records.specs.Setup.{IsInRange}
use Rattle.lane.specs.Limits.{most_channels}
use Rattle.loss_rule.specs.declared.rule.LossRule.{LossRule}
use Rattle.loss_rule.specs.Rule.{no_lasts}
use Rattle.bonded_flows.specs.declared.bonded_flow.BondedFlow.{BondedFlow}
use Rattle.bonded_flows.specs.declared.flow_slot.FlowSlot.{FlowSlot}
use Rattle.bonded_flows.specs.FlowSetup.{FlowSetup, ruled_flow}
use Rattle.bonded_flows.specs.Channels.{channels_within}
use Rattle.bonded_flows.specs.Slots.{EntryStands, PartStands, SlotStands, IsNewSlot, AreNewSlots}
use Rattle.bonded_flows.specs.Table.{TableSetup, flow_setup}
use Rattle.bonded_flows.proofs.UnbegunDecisions.{nothing-there}

-- one slot more
before-more : (slots : List FlowSlot) (slot one : FlowSlot) (k : ℕ) → k < length slots → slice_get (slots ++ slot ∷ []) k ≡ Some one → slice_get slots k ≡ Some one
before-more (own ∷ slots) slot one zero inside there = there
before-more (own ∷ slots) slot one (suc k) inside there = before-more slots slot one k (omega arith) there
before-more [] slot one k inside there = absurd (omega arith)

pub slots-more : (rule : LossRule) (records : List FlowRecord) (sets : List (List Bool)) (channel_count : ℕ) (slots : List FlowSlot) (slot : FlowSlot) (n : ℕ)
    (flow_record : FlowRecord) (channels : List Bool) → length slots ≡ n → slice_get records n ≡ Some flow_record → slice_get sets n ≡ Some channels
    → IsNewSlot n rule flow_record channels channel_count slot
    → AreNewSlots rule records sets channel_count slots → AreNewSlots rule records sets channel_count (slots ++ slot ∷ [])
slots-more rule records sets channel_count slots slot n flow_record channels count of_record of_set new are k r c one r_there c_there there =
    elim (cases_lt k n) [
      | inl before ↦ are k r c one r_there c_there (before-more slots slot one k (omega arith) there)
      | inr from ↦
          let inside = slice_get_within (slots ++ slot ∷ []) k one there in
          let long = length-append slots (slot ∷ []) in
          let same : n ≡ k = omega arith in
          let here : slice_get (slots ++ slot ∷ []) n ≡ Some slot = subst (λ (m : ℕ). slice_get (slots ++ slot ∷ []) m ≡ Some slot) count (slice_get-at slots slot []) in
          let is_slot : slot ≡ one = same_Some slot one (sym here ∙ subst (λ (m : ℕ). slice_get (slots ++ slot ∷ []) m ≡ Some one) (sym same) there) in
          let is_record : flow_record ≡ r = same_Some flow_record r (sym of_record ∙ subst (λ (m : ℕ). slice_get records m ≡ Some r) (sym same) r_there) in
          let is_set : channels ≡ c = same_Some channels c (sym of_set ∙ subst (λ (m : ℕ). slice_get sets m ≡ Some c) (sym same) c_there) in
          subst (λ (m : ℕ). IsNewSlot m rule r c channel_count one) same
          (subst (λ (s : FlowSlot). IsNewSlot n rule r c channel_count s) is_slot
          (subst (λ (q : FlowRecord). IsNewSlot n rule q c channel_count slot) is_record
          (subst (λ (l : List Bool). IsNewSlot n rule flow_record l channel_count slot) is_set new)))
    ]

-- a new slot stands for nothing
new-part : (check : List ℕ → Bool) (setup : FlowSetup) (slot : FlowSlot) (channels : List Bool) (channel_count : ℕ)
    → IsNewSlot setup.index setup.rule setup.flow_record channels channel_count slot → channel_count ≤ most_channels → take channel_count channels ≡ setup.channels
    → IsInRange setup.flow_record → PartStands check setup slot [] []
new-part check setup slot channels channel_count new few are range = record {
  index = new.index_is;
  rule = new.rule_is;
  record_is = new.record_is;
  few = subst (λ (n : ℕ). n ≤ most_channels) (sym new.count_is) few;
  channels = ap (λ (n : ℕ). take n slot.channels) new.count_is ∙ ap (take channel_count) new.channels_are ∙ are;
  in_range = range;
  entry = subst (λ (f : Option (Box BondedFlow)). EntryStands check setup f [] []) (sym new.none) (record {
    events = [];
    lasts = no_lasts (ruled_flow setup);
    ruled = (refl, refl, refl);
    no_arrival = gaps-no_arrival 0;
    no_skip = λ before behind number e. nothing-there before behind (skip_to number) e;
    nothing = refl;
  });
}

pub new-stands : (check : List ℕ → Bool) (made : TableSetup) (k : ℕ) (flow_record : FlowRecord) (slot : FlowSlot) (channels : List Bool)
    → IsNewSlot k made.rule flow_record channels made.channels slot → made.channels ≤ most_channels
    → take made.channels channels ≡ channels_within made.channels made.rows k → IsInRange flow_record
    → SlotStands check (flow_setup made k flow_record) slot [] []
new-stands check made k flow_record slot channels new few are range = record {
  earlier = [];
  own = [];
  gave = refl;
  all = refl;
  part = new-part check (flow_setup made k flow_record) slot channels made.channels new few are range;
}
