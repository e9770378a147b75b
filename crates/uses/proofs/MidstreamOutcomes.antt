-- What each flow gave of which one began in the midst.
use Rattle.std.proofs.Common.{refl, ◌≡◌, ℕ, Bool, IsTrue, Some, List, [], ◌∷◌, ◌++◌, map, length, slice_get, Vec, Global, ap, sym, subst, ◌∙◌, arith}
use Rattle.std.proofs.lemmas.List.{get_or-map}
use Rattle.std.proofs.lemmas.Option.{slice_get_within, get_or_from_slice_get}
use Rattle.docsis_wire.proofs.StreamPlaces.{element_at}
use Rattle.flow_core.specs.declared.counts.FlowCounts.{FlowCounts}
use Rattle.flow_core.specs.Events.{skip_to}
use Rattle.flow_records.specs.declared.event.Event.{Event}
use Rattle.flow_records.specs.declared.event.Event.TheVariants.{Arrive, SkipTo}
use Rattle.flow_records.specs.declared.record.FlowRecord.{FlowRecord}
use Rattle.lane.specs.Limits.{channel_limit}
use Rattle.loss_rule.specs.declared.rule.LossRule.{LossRule}
use Rattle.loss_rule.specs.Rule.{handed_in}
use Rattle.consumer.specs.declared.given.Given.{Given}
use Rattle.consumer.specs.declared.collected.Collected.{Collected}
use Rattle.consumer.specs.Collecting.{HasNothing, HasCollected, list_at}
use Rattle.consumer.specs.Given.{frames_of}
use Rattle.bonded_flows.specs.declared.flow_table.FlowTable.{FlowTable}
use Rattle.bonded_flows.specs.Parts.{comes}
use Rattle.bonded_flows.specs.Table.{TableSetup, TableInput, flow_setup, inputs_at, StandsFor, TakesMore}
use Rattle.bonded_flows.proofs.TableTurns.{of_flow}
use Rattle.receiver.specs.declared.outcome.FlowOutcome.{FlowOutcome}
use Rattle.receiver.specs.declared.setup.Setup.{Setup}
use Rattle.receiver.specs.HandedIn.{made_of}
use Rattle.receiver.specs.Received.{GaveAllParts}
use Rattle.receiver.specs.Ruled.{comings_at, AreRuledOutcomes}
use Rattle.receiver.specs.TakenInOrder.{table_inputs}
use Rattle.uplink.specs.Inside.Collected.{AreFlowsOf}
use Rattle.receiver.proofs.TakenInOrder.{inputs-come, one-part_gave, ruled-outcome}
use Rattle.uses.specs.declared.midstream.OnChannel.{OnChannel}
use Rattle.uses.specs.Midstream.{arrival, TakesAll, ClosesAll}
use Rattle.uses.proofs.TableTakes.{came-inputs, takes-of-one, takes-both}

-- the list of this index that is there
list-there : (lists : List (Vec (List ℕ) Global)) (k : ℕ) (one : Vec (List ℕ) Global) → slice_get lists k ≡ Some one → list_at lists k ≡ one.items
list-there lists k one there =
    let items_in : Vec (List ℕ) Global → List (List ℕ) = λ list. list.items in
    get_or-map items_in lists k one [] (slice_get_within lists k one there) ∙ ap items_in (get_or_from_slice_get lists k one one there)

-- the channels of the skip and of the segments, and what they are
abbrev pub order_of : List OnChannel → List ℕ
order_of came = channel_limit ∷ map (λ (one : OnChannel). one.channel) came

abbrev pub items_of : ℕ → ℕ → List OnChannel → List Event
items_of flow number came = SkipTo flow number ∷ map (λ (one : OnChannel). Arrive flow one.segment.segment) came

-- What each flow gave that is closed, as frames and counts by the flow's index.
pub record HasReceived (rule : LossRule) (check : List ℕ → Bool) (setup : Setup) (order : List ℕ) (items : List Event) (frames : List (Vec (List ℕ) Global)) (counts : List FlowCounts) : Type 0 where
  pub many : length frames ≡ length setup.flows.items
  pub count : length counts ≡ length setup.flows.items
  pub gave : (k : ℕ) (flow_record : FlowRecord) (own : Vec (List ℕ) Global) (one : FlowCounts) → slice_get setup.flows.items k ≡ Some flow_record
      → slice_get frames k ≡ Some own → slice_get counts k ≡ Some one
      → GaveAllParts check (flow_setup (made_of rule channel_limit setup) k flow_record) (inputs_at k (table_inputs order items)) own.items one

module _ {C : Type 0} (accepts : C → List ℕ → Bool) (check : List ℕ → Bool) (rule : LossRule) (setup : Setup) (flow number : ℕ) (came : List OnChannel)
    (flows0 flows1 flows2 : FlowTable C) (given0 given1 given2 given3 : Collected) (counts : List FlowCounts)
    (stands : StandsFor accepts flows0 check (made_of rule channel_limit setup) [] []) (nothing : HasNothing (length setup.flows.items) 0 given0)
    (began : HasCollected given0 [] given0)
    (has : (flow_count channel_count : ℕ) (start end : Collected) (given : List Given) → HasNothing flow_count channel_count start → HasCollected start given end → IsTrue end.whole
    → (k : ℕ) → list_at end.frames.items k ≡ frames_of k given)
    (skipped : TakesMore HasCollected accepts flows0 given0 flow (of_flow flow (comes (handed_in (skip_to number))) ∷ []) flows1 given1)
    (took : TakesAll HasCollected accepts flows1 given1 (map (arrival flow) came) flows2 given2)
    (closed : ClosesAll HasCollected accepts flows2 given2 counts given3) (whole : IsTrue given3.whole) where
  abbrev inputs : List TableInput
  inputs = table_inputs (order_of came) (items_of flow number came)

  abbrev made : TableSetup
  made = made_of rule channel_limit setup

  all-taken : TakesAll HasCollected accepts flows0 given0 inputs flows2 given2
  all-taken =
      subst (λ (rest : List TableInput). TakesAll HasCollected accepts flows0 given0 (of_flow flow (comes (handed_in (skip_to number))) ∷ rest) flows2 given2) (sym (came-inputs flow came))
      (takes-both HasCollected accepts flows0 flows1 flows2 given0 given1 given2 (of_flow flow (comes (handed_in (skip_to number))) ∷ []) (map (arrival flow) came)
      (takes-of-one HasCollected accepts flows0 flows1 given0 given1 flow (of_flow flow (comes (handed_in (skip_to number))) ∷ []) skipped) took)

  abbrev given : List Given
  given = all-taken.more ++ closed.more

  collected : HasCollected given0 given given3
  collected = closed.was_given given0 all-taken.more (all-taken.was_given given0 [] began)

  stands-now : StandsFor accepts flows2 check made inputs all-taken.more
  stands-now = all-taken.stands check made [] [] stands

  pub has-received : HasReceived rule check setup (order_of came) (items_of flow number came) given3.frames.items counts
  has-received = record {
    many = (collected whole).1.flow_count ∙ nothing.frames.many;
    count = closed.count ∙ stands-now.flow_count;
    gave = λ k flow_record own one of_record at_frames at_counts.
        subst (λ frames. GaveAllParts check (flow_setup made k flow_record) (inputs_at k inputs) frames one)
        (sym (has (length setup.flows.items) 0 given0 given3 given nothing collected whole k) ∙ list-there given3.frames.items k own at_frames)
        (closed.gave check made inputs all-taken.more stands-now k flow_record one of_record at_counts);
  }

-- what each flow gave is its outcome by the rule
pub ruled-outcomes : (rule : LossRule) (check : List ℕ → Bool) (setup : Setup) (order : List ℕ) (items : List Event) (frames : List (Vec (List ℕ) Global)) (counts : List FlowCounts) (flows : List FlowOutcome)
    → HasReceived rule check setup order items frames counts → AreFlowsOf setup.flows.items frames counts flows → AreRuledOutcomes rule check setup order items flows
ruled-outcomes rule check setup order items frames counts flows received are = record {
  count = are.count;
  each = λ k flow_record of_record.
      let within = slice_get_within setup.flows.items k flow_record of_record in
      let flow = element_at flows k (let count = are.count in omega arith) in
      let own = element_at frames k (let many = received.many in omega arith) in
      let counted = element_at counts k (let count = received.count in omega arith) in
      let says = are.each k flow.0 flow_record own.0 counted.0 flow.1 of_record own.1 counted.1 in
      let made = made_of rule channel_limit setup in
      let whole = flow_setup made k flow_record in
      let comings = comings_at k order items in
      let Gave : List (List ℕ) → FlowCounts → Type 0 = GaveAllParts check whole (map comes comings) in
      let all : Gave own.0.items counted.0 =
      subst (λ inputs. GaveAllParts check whole inputs own.0.items counted.0) (inputs-come k order items) (received.gave k flow_record own.0 counted.0 of_record own.1 counted.1) in (
        flow.0,
        flow.1,
        ruled-outcome check made k flow_record comings flow.0 refl says.0
            (one-part_gave check whole comings flow.0.frames.items flow.0.counts
            (subst (Gave flow.0.frames.items) (sym says.2) (subst (λ (given : Vec (List ℕ) Global). Gave given.items counted.0) (sym says.1) all))),
      );
}
