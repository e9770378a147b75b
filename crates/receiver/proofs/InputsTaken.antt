-- What a receiver takes.
use Rattle.std.proofs.Common.{◌≡◌, ℕ, ◌<◌, ◌≤◌, ◌⊎◌, inl, inr, Bool, true, false, ◌&&◌, nat_lt, if◌then◌else◌, Option, Some, None, Result, Ok, Err, IfErr, IsErr, List, [], ◌∷◌, ◌++◌, length, map, filter_map, slice_get, refl, ap, sym, subst, ◌∙◌, append-nil, arith}
use Rattle.std.proofs.lemmas.Bool.{le-ltb, lt-ltb, false≢true}
use Rattle.std.proofs.lemmas.List.Elements.{filter_map-append}
use Rattle.std.proofs.lemmas.Option.{same_Some, slice_get_within, slice_get_cases}
use Rattle.flow_records.specs.declared.record.FlowRecord.{FlowRecord}
use Rattle.consumer.specs.declared.given.Given.{Given}
use Rattle.consumer.specs.declared.given.Given.TheVariants.{Frame}
use Rattle.consumer.specs.Given.{frames_of}
use Rattle.bonded_flows.specs.declared.decision.FlowDecision.{FlowDecision}
use Rattle.bonded_flows.specs.declared.flow_slot.FlowSlot.{FlowSlot}
use Rattle.bonded_flows.specs.declared.flow_slot.DecideFault.{DecideFault}
use Rattle.bonded_flows.specs.declared.flow_slot.DecideFault.TheVariants.{NotTaken, Unfinished}
use Rattle.bonded_flows.specs.declared.flow_table.FlowTable.{FlowTable}
use Rattle.bonded_flows.specs.ByRule.{is_in_range}
use Rattle.bonded_flows.specs.Slots.{PartStands, SlotStands, LeavesOf}
use Rattle.bonded_flows.specs.Table.{TableSetup, TableInput, flow_setup, inputs_at, PartStandsAt}
use Rattle.bonded_flows.specs.Table.{StandsFor as TableStandsFor, TakesMore as TableTakesMore}
use Rattle.bonded_flows.proofs.TableTurns.{no-request}
use Rattle.receiver.specs.declared.receiver.Receiver.{Receiver}
use Rattle.receiver.specs.HandedIn.{HandedIn, decided, decides_of, flow_input_of, flow_inputs, answered_on, begun_with, came_since}
use Rattle.receiver.specs.Receiving.{HaveAnswered, StandsFor, IsReceiving, TakesMore, GaveSince}
use Rattle.receiver.proofs.AnsweredInputs.{lanes-stay}

-- what is passed over, and what is taken of a decision
pub passed-over : (n flow : ℕ) (decision : FlowDecision) → (n ≤ flow) ⊎ (is_in_range decision ≡ false) → (nat_lt flow n && is_in_range decision) ≡ false
passed-over n flow decision (inl beyond) = ap (λ b. b && is_in_range decision) (le-ltb flow n beyond)
passed-over n flow decision (inr out) = ap (λ b. nat_lt flow n && b) out ∙ no-more (nat_lt flow n)
  where
    no-more : (b : Bool) → (b && false) ≡ false
    no-more true = refl
    no-more false = refl

pub taken-decision : (n flow : ℕ) (decision : FlowDecision) → flow < n → is_in_range decision ≡ true → (nat_lt flow n && is_in_range decision) ≡ true
taken-decision n flow decision inside in_range = ap (λ b. b && is_in_range decision) (lt-ltb flow n inside) ∙ in_range

pub decided-input : (n flow : ℕ) (decision : FlowDecision) (taken : Bool) → (nat_lt flow n && is_in_range decision) ≡ taken
    → flow_inputs n (decided flow decision ∷ []) ≡ (if taken then decides_of flow decision ∷ [] else [])
decided-input n flow decision taken is =
    ap (λ b. filter_map (λ (o : Option TableInput). o) ((if b then Some (decides_of flow decision) else None) ∷ [])) is ∙ by-taken taken
  where
    by-taken : (b : Bool) → filter_map (λ (o : Option TableInput). o) ((if b then Some (decides_of flow decision) else None) ∷ []) ≡ (if b then decides_of flow decision ∷ [] else [])
    by-taken true = refl
    by-taken false = refl

-- what is so of what a flow gave since it was begun, and what follows
pub since-so : {P Q : List (List ℕ) → Type 0} (frames : List (List ℕ)) → ((own : List (List ℕ)) → P own → Q own) → GaveSince P frames → GaveSince Q frames
since-so frames leads gave = record { earlier = gave.earlier; own = gave.own; all = gave.all; is_so = leads gave.own gave.is_so }

-- what a flow of a table stands for since it was begun or began anew
pub part-at : {C : Type 0} (accepts : C → List ℕ → Bool) (flows : FlowTable C) (check : List ℕ → Bool) (made : TableSetup) (history : List TableInput) (given : List Given) (k : ℕ) (flow_record : FlowRecord)
    → TableStandsFor accepts flows check made history given → slice_get made.records k ≡ Some flow_record
    → GaveSince (λ own. PartStandsAt (accepts flows.check) (begun_with made k flow_record history) flows k (came_since made k flow_record history) own) (frames_of k given)
part-at accepts flows check made history given k flow_record stands of_record =
    let inside = slice_get_within made.records k flow_record of_record in
    let count = stands.flow_count in
    let slot : (slot : FlowSlot) × (slice_get flows.slots.items k ≡ Some slot) = elim (slice_get_cases flows.slots.items k).1 [
      | inl found ↦ (found.0, found.2)
      | inr past ↦ let beyond = past.0 in absurd (omega arith)
    ] in
    let here : SlotStands check (flow_setup made k flow_record) slot.0 (inputs_at k history) (frames_of k given) = stands.flows k flow_record slot.0 of_record slot.1 in
    record {
      earlier = here.earlier;
      own = here.own;
      all = here.all;
      is_so = λ one there.
          subst (λ (s : FlowSlot). PartStands (accepts flows.check) (begun_with made k flow_record history) s (came_since made k flow_record history) here.own) (same_Some slot.0 one (sym slot.1 ∙ there))
          (subst (λ (c : List ℕ → Bool). PartStands c (begun_with made k flow_record history) slot.0 (came_since made k flow_record history) here.own) (sym stands.check_is) here.part);
    }

module _ {C O : Type 0} (accepts : C → List ℕ → Bool) (after : O → List Given → O → Type 0) (receiver receiver' : Receiver C) (out out' : O) where
  -- what its lanes and its flows take a receiver takes
  pub takes-both : (more : List HandedIn) (given_more : List Given)
      → ((start : O) (given : List Given) → after start given out → after start (given ++ given_more) out')
      → ((made : TableSetup) (handed : List HandedIn) (given : List Given) → HaveAnswered made receiver.lanes.items handed given
      → HaveAnswered made receiver'.lanes.items (handed ++ more) (given ++ given_more))
      → ((check : List ℕ → Bool) (made : TableSetup) (history : List TableInput) (given : List Given) → TableStandsFor accepts receiver.flows check made history given
      → TableStandsFor accepts receiver'.flows check made (history ++ flow_inputs (length made.records) more) (given ++ given_more))
      → TakesMore after accepts receiver out more receiver' out'
  takes-both more given_more was_given lanes flows = record {
    given_more = given_more;
    was_given = was_given;
    stands = λ check made handed given stands. record {
      lanes = lanes made handed given stands.lanes;
      flows =
          subst (λ (history : List TableInput). TableStandsFor accepts receiver'.flows check made history (given ++ given_more))
          (sym (filter_map-append (flow_input_of (length made.records)) handed more))
          (flows check made (flow_inputs (length made.records) handed) given stands.flows);
    };
  }

  -- whatever it takes, it is receiving afterwards
  pub still-receiving : (more : List HandedIn) → IsReceiving accepts receiver → TakesMore after accepts receiver out more receiver' out' → IsReceiving accepts receiver'
  still-receiving more receiving takes = record {
    check = receiving.check;
    made = receiving.made;
    handed = receiving.handed ++ more;
    given = receiving.given ++ takes.given_more;
    stands = takes.stands receiving.check receiving.made receiving.handed receiving.given receiving.stands;
  }

  pub receiving-decided : {T : Type 0} → IsReceiving accepts receiver → (more : List HandedIn) (result : Result T DecideFault)
      → IfErr result (λ fault. LeavesOf fault (TakesMore after accepts receiver out [] receiver' out') (TakesMore after accepts receiver out more receiver' out'))
      → IsErr result → IsReceiving accepts receiver'
  receiving-decided receiving more (Ok t) left is_err = absurd (false≢true is_err)
  receiving-decided receiving more (Err (NotTaken why)) left is_err = still-receiving [] receiving left
  receiving-decided receiving more (Err Unfinished) left is_err = still-receiving more receiving left

  -- what its flows take where no input came
  module _ (more : List HandedIn) (inputs : List TableInput) (same : receiver'.lanes ≡ receiver.lanes) (none : (channel : ℕ) → answered_on channel more ≡ [])
      (are : (made : TableSetup) → length receiver.flows.slots.items ≡ length made.records → flow_inputs (length made.records) more ≡ inputs) (k : ℕ) where
    pub stands-flows : (frames : List (List ℕ))
        → ((check : List ℕ → Bool) (made : TableSetup) (history : List TableInput) (given : List Given) → TableStandsFor accepts receiver.flows check made history given
        → TableStandsFor accepts receiver'.flows check made (history ++ inputs) (given ++ map (Frame k) frames))
        → (check : List ℕ → Bool) (made : TableSetup) (handed : List HandedIn) (given : List Given) → StandsFor accepts receiver check made handed given
        → StandsFor accepts receiver' check made (handed ++ more) (given ++ map (Frame k) frames)
    stands-flows frames flows check made handed given stands = record {
      lanes =
          subst (λ lanes. HaveAnswered made lanes (handed ++ more) (given ++ map (Frame k) frames)) (sym (ap (λ lanes. lanes.items) same))
          (lanes-stay made handed given (map (Frame k) frames) receiver.lanes.items more none (λ channel. no-request k channel frames) stands.lanes);
      flows =
          subst (λ (history : List TableInput). TableStandsFor accepts receiver'.flows check made history (given ++ map (Frame k) frames))
          (sym (filter_map-append (flow_input_of (length made.records)) handed more))
          (subst (λ (t : List TableInput). TableStandsFor accepts receiver'.flows check made (flow_inputs (length made.records) handed ++ t) (given ++ map (Frame k) frames)) (sym (are made stands.flows.flow_count))
          (flows check made (flow_inputs (length made.records) handed) given stands.flows));
    }

    pub takes-flows : TableTakesMore after accepts receiver.flows out k inputs receiver'.flows out'
        → TakesMore after accepts receiver out more receiver' out'
    takes-flows takes = record {
      given_more = map (Frame k) takes.more;
      was_given = takes.was_given;
      stands = stands-flows takes.more takes.stands;
    }

module _ {C O : Type 0} (accepts : C → List ℕ → Bool) (after : O → List Given → O → Type 0) where
  -- nothing is taken of what changes nothing
  pub takes-nothing : (receiver : Receiver C) (out : O) (more : List HandedIn) → ((channel : ℕ) → answered_on channel more ≡ [])
      → ((made : TableSetup) → length receiver.flows.slots.items ≡ length made.records → flow_inputs (length made.records) more ≡ [])
      → TakesMore after accepts receiver out more receiver out
  takes-nothing receiver out more none are =
      takes-flows accepts after receiver receiver out out more [] refl none are 0
      (record {
        more = [];
        was_given = λ start given was. subst (λ g. after start g out) (sym (append-nil given)) was;
        stands = λ check made history given stands.
            subst (λ h. TableStandsFor accepts receiver.flows check made h (given ++ [])) (sym (append-nil history))
            (subst (λ g. TableStandsFor accepts receiver.flows check made history g) (sym (append-nil given)) stands);
      })
