-- What comes to the flows of a trace with one thing more that is handed in.
use Rattle.std.proofs.Common.{◌≡◌, ◌≢◌, ℕ, Option, Some, None, All, List, [], ◌∷◌, ◌++◌, length, map, ap, ◌∙◌, append-nil}
use Rattle.std.specs.List.{cons_option}
use Rattle.std.proofs.lemmas.List.Elements.{filter_map-append}
use Rattle.flow_records.specs.declared.record.FlowRecord.{FlowRecord}
use Rattle.loss_rule.specs.Rule.{Coming}
use Rattle.bonded_flows.specs.Parts.{FlowInput, comes, Part, last_part, begun_at}
use Rattle.bonded_flows.specs.Table.{TableSetup, TableInput, flow_setup, inputs_at}
use Rattle.bonded_flows.proofs.PartTurns.{last-comes}
use Rattle.bonded_flows.proofs.TableTurns.{of_flow, inputs-own, inputs-others}
use Rattle.receiver.specs.HandedIn.{HandedIn, flow_input_of, flow_inputs, begun_with}
use Rattle.receiver.proofs.TakenInOrder.{one-part_last}
use Rattle.texts.specs.FollowedReport.{came_to}
use Rattle.texts.specs.Happened.{IsOfTrace}
use Rattle.texts.proofs.GivenOfTrace.{all_come}

-- ---- one thing more that is handed in

module _ (made : TableSetup) (handed : List HandedIn) (one : HandedIn) where
  abbrev flow_count : ℕ
  flow_count = length made.records

  -- to no flow, or to one
  pub inputs_stay : flow_input_of flow_count one ≡ None → flow_inputs flow_count (handed ++ one ∷ []) ≡ flow_inputs flow_count handed
  inputs_stay none =
      filter_map-append (flow_input_of flow_count) handed (one ∷ [])
      ∙ ap (λ (o : Option TableInput). flow_inputs flow_count handed ++ cons_option o []) none ∙ append-nil (flow_inputs flow_count handed)

  pub inputs_more : (k : ℕ) (input : FlowInput) → flow_input_of flow_count one ≡ Some (of_flow k input)
      → flow_inputs flow_count (handed ++ one ∷ []) ≡ flow_inputs flow_count handed ++ map (of_flow k) (input ∷ [])
  inputs_more k input is =
      filter_map-append (flow_input_of flow_count) handed (one ∷ []) ∙ ap (λ (o : Option TableInput). flow_inputs flow_count handed ++ cons_option o []) is

  pub came_stays : (k : ℕ) (flow_record : FlowRecord) → flow_input_of flow_count one ≡ None → came_to made (handed ++ one ∷ []) k flow_record ≡ came_to made handed k flow_record
  came_stays k flow_record none =
      ap (λ (history : List TableInput). (last_part (flow_setup made k flow_record) (inputs_at k history)).comings) (inputs_stay none)

  module _ (k : ℕ) (coming : Coming) (is : flow_input_of flow_count one ≡ Some (of_flow k (comes coming))) where
    pub came_elsewhere : (other : ℕ) (flow_record : FlowRecord) → k ≢ other → came_to made (handed ++ one ∷ []) other flow_record ≡ came_to made handed other flow_record
    came_elsewhere other flow_record apart =
        let setup = flow_setup made other flow_record in
        ap (λ (history : List TableInput). (last_part setup (inputs_at other history)).comings) (inputs_more k (comes coming) is)
        ∙ ap (λ (inputs : List FlowInput). (last_part setup inputs).comings) (inputs-others k (flow_inputs flow_count handed) (comes coming ∷ []) [] [] other apart)

    pub came_here : (flow_record : FlowRecord) → came_to made (handed ++ one ∷ []) k flow_record ≡ came_to made handed k flow_record ++ coming ∷ []
    came_here flow_record =
        let setup = flow_setup made k flow_record in
        let history = flow_inputs flow_count handed in
        ap (λ (history : List TableInput). (last_part setup (inputs_at k history)).comings) (inputs_more k (comes coming) is)
        ∙ ap (λ (inputs : List FlowInput). (last_part setup inputs).comings) (inputs-own k history (comes coming ∷ []) [] [])
        ∙ ap (λ (part : Part). part.comings) (last-comes setup.flow_record.first [] (inputs_at k history) (coming ∷ []))

-- a flow of a trace never began anew
pub begun_once : (made : TableSetup) (channels : ℕ) (handed : List HandedIn) → All (IsOfTrace channels) handed → (k : ℕ) (flow_record : FlowRecord)
    → begun_with made k flow_record (flow_inputs (length made.records) handed) ≡ flow_setup made k flow_record
begun_once made channels handed each k flow_record =
    let setup = flow_setup made k flow_record in
    let found = all_come channels (length made.records) k handed each in
    ap (λ (part : Part). begun_at setup part.first) (ap (last_part setup) found.1 ∙ one-part_last setup found.0)
