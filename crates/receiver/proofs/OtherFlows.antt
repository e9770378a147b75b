-- What an input changes of the flows: the one of which a segment is admitted, and no other.
use Rattle.std.proofs.Common.{◌≡◌, ℕ, Bool, List, Option, Some, None, Result, MatchOption, IfSome, [], slice_get, ap, sym, subst, ◌∙◌, refl}
use Rattle.std.specs.Option.{option_map}
use Rattle.std.proofs.lemmas.Option.{same_Some}
use Rattle.lane.specs.declared.admitted.Admitted.{Admitted}
use Rattle.lane.specs.declared.input.Input.{Input}
use Rattle.lane.specs.Inputs.{Answer}
use Rattle.lane.specs.Report.{admitted_by}
use Rattle.bonded_flows.specs.declared.flow_slot.NotReady.{NotReady}
use Rattle.bonded_flows.specs.declared.flow_table.FlowTable.{FlowTable}
use Rattle.bonded_flows.specs.Table.{OthersStay}
use Rattle.receiver.specs.declared.tallied_lane.TalliedLane.{TalliedLane}
use Rattle.receiver.specs.declared.receiver.Receiver.{Receiver}
use Rattle.receiver.specs.HandedIn.{answered_on, lane_of}
use Rattle.receiver.specs.Receiving.{AnswersMore, ChangesItsFlow, IsReceiving}
use Rattle.receiver.proofs.AnsweredInputs.{is-answer}

-- what holds of no flow
pub where-none : {T : Type 0} (o : Option T) (P : Type 0) (Q : T → Type 0) → ((x : T) → o ≡ Some x → ⊥) → P → MatchOption o P Q
where-none None P Q never is = is
where-none (Some x) P Q never is = absurd (never x refl)

-- at most one flow changes
pub one-changes : {C : Type 0} (flows flows' : FlowTable C) (flow : Option ℕ) → MatchOption flow (flows' ≡ flows) (λ k. OthersStay flows k flows')
    → (k : ℕ) × OthersStay flows k flows'
one-changes flows flows' None same = (0, λ other apart. ap (λ (t : FlowTable _). slice_get t.slots.items other) same)
one-changes flows flows' (Some k) stay = (k, stay)

-- what is said of the lane that was looked at is said of the one that answers: they stand at one
-- place
pub changes-of : {C : Type 0} (flows flows' : FlowTable C) (ready : Result (Unit {0}) NotReady) (lanes : List TalliedLane) (channel : ℕ) (looked here : TalliedLane)
    → slice_get lanes channel ≡ Some looked → slice_get lanes channel ≡ Some here → (input : Input)
    → ChangesItsFlow looked.lane input flows ready flows' → ChangesItsFlow here.lane input flows ready flows'
changes-of flows flows' ready lanes channel looked here is_looked is_here input =
    subst (λ (one : TalliedLane). ChangesItsFlow one.lane input flows ready flows') (same_Some looked here (sym is_looked ∙ is_here))

module _ {C : Type 0} (accepts : C → List ℕ → Bool) (receiver : Receiver C) (flows : FlowTable C) (channel : ℕ) (before after : TalliedLane)
    (here : slice_get receiver.lanes.items channel ≡ Some before) (input : Input) (ready : Result (Unit {0}) NotReady) (changes : ChangesItsFlow before.lane input receiver.flows ready flows)
    (receiving : IsReceiving accepts receiver) (answer : Answer) (answers : AnswersMore before input answer after) where
  its-flow : option_map (λ (a : Admitted). a.flow) (admitted_by answer) ≡ changes.flow
  its-flow =
      let stands = receiving.stands.lanes in
      changes.would receiving.made.channels (lane_of receiving.made channel) (answered_on channel receiving.handed) answer stands.rows_fit (stands.each channel before here).stands
      (is-answer receiving.made receiving.handed receiving.given [] receiver.lanes.items channel before after here input answer answers stands)

  -- where nothing is admitted no flow changes
  pub no-flow-changes : admitted_by answer ≡ None → flows ≡ receiver.flows
  no-flow-changes none =
      subst (λ (flow : Option ℕ). MatchOption flow (flows ≡ receiver.flows) (λ k. OthersStay receiver.flows k flows))
      (sym its-flow ∙ ap (option_map (λ (a : Admitted). a.flow)) none) changes.changed

  -- where a segment is admitted only its flow does
  pub others-stay : (admitted : Admitted) → admitted_by answer ≡ Some admitted → (flows' : FlowTable C) → OthersStay flows admitted.flow flows'
      → OthersStay receiver.flows admitted.flow flows'
  others-stay admitted some flows' stay other apart =
      stay other apart
      ∙ subst (λ (flow : Option ℕ). MatchOption flow (flows ≡ receiver.flows) (λ k. OthersStay receiver.flows k flows))
      (sym its-flow ∙ ap (option_map (λ (a : Admitted). a.flow)) some) changes.changed other apart

-- what holds of each flow that there is, where there is none
pub none-some : {T : Type 0} (o : Option T) (P : T → Type 0) → ((x : T) → o ≡ Some x → ⊥) → IfSome o P
none-some None P never = tt
none-some (Some x) P never = absurd (never x refl)
