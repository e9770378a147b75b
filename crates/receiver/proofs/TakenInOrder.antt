-- What flows give that take items in an order.
use Rattle.std.proofs.Common.{◌≡◌, ℕ, ◌==◌, Bool, true, false, cond, Some, None, List, [], ◌∷◌, ◌++◌, map, length, refl, ap, sym, subst, ◌∙◌}
use Rattle.std.specs.List.{cons_option}
use Rattle.flow_records.specs.declared.record.FlowRecord.{FlowRecord}
use Rattle.flow_records.specs.declared.event.Event.{Event}
use Rattle.flow_records.specs.Events.{flow_of}
use Rattle.lane.specs.Limits.{channel_limit}
use Rattle.loss_rule.specs.Rule.{Coming, AreRuled}
use Rattle.bonded_flows.specs.FlowSetup.{FlowSetup}
use Rattle.bonded_flows.specs.ByRule.{GaveByRule}
use Rattle.bonded_flows.specs.Parts.{FlowInput, comes, Part, parts_over, last_part, begun_at, GaveInParts}
use Rattle.bonded_flows.specs.Table.{TableSetup, flow_setup, inputs_at}
use Rattle.bonded_flows.specs.Channels.{channels_within}
use Rattle.bonded_flows.proofs.PartTurns.{last-comes, over-comes}
use Rattle.receiver.specs.declared.outcome.FlowOutcome.{FlowOutcome}
use Rattle.receiver.specs.Ruled.{coming_of, comings_at, ruled_flow, IsRuledOutcome}
use Rattle.receiver.specs.Received.{GaveAllParts}
use Rattle.receiver.specs.TakenInOrder.{table_input_of, table_inputs}

-- what comes to flow k of the items is what is handed in of it
pub inputs-come : (k : ℕ) (order : List ℕ) (items : List Event) → inputs_at k (table_inputs order items) ≡ map comes (comings_at k order items)
inputs-come k [] items = refl
inputs-come k (sender ∷ order) [] = refl
inputs-come k (sender ∷ order) (item ∷ items) = either (inputs-come k order items) (flow_of item == k)
  where
    either : inputs_at k (table_inputs order items) ≡ map comes (comings_at k order items) → (own : Bool)
        → cons_option (cond own (Some (comes (coming_of sender item))) None) (inputs_at k (table_inputs order items))
        ≡ map comes (cond own (coming_of sender item ∷ comings_at k order items) (comings_at k order items))
    either rest true = ap (λ (t : List FlowInput). comes (coming_of sender item) ∷ t) rest
    either rest false = rest

-- one item more
pub inputs-more : (order : List ℕ) (items : List Event) (sender : ℕ) (item : Event) → length order ≡ length items
    → table_inputs (order ++ sender ∷ []) (items ++ item ∷ []) ≡ table_inputs order items ++ table_input_of sender item ∷ []
inputs-more [] [] sender item same = refl
inputs-more [] (other ∷ items) sender item same = absurd cc
inputs-more (tag ∷ order) [] sender item same = absurd cc
inputs-more (tag ∷ order) (other ∷ items) sender item same = ap (λ t. table_input_of tag other ∷ t) (inputs-more order items sender item (cc))

-- a flow to which things only come has one part
pub one-part_last : (setup : FlowSetup) (comings : List Coming) → last_part setup (map comes comings) ≡ record { first = setup.flow_record.first; comings = comings }
one-part_last setup comings = last-comes setup.flow_record.first [] [] comings

pub one-part_over : (setup : FlowSetup) (comings : List Coming) → parts_over setup (map comes comings) ≡ []
one-part_over setup comings = over-comes setup.flow_record.first [] [] comings

module _ (check : List ℕ → Bool) (setup : FlowSetup) (comings : List Coming) (frames : List (List ℕ)) where
  -- and gave what by the rule comes of that
  pub one-part_gave : (counts : _) → GaveAllParts check setup (map comes comings) frames counts → GaveByRule check setup comings frames counts
  one-part_gave counts gave =
      let nothing = subst (λ (parts : List Part). GaveInParts check setup parts gave.earlier) (one-part_over setup comings) gave.gave in
      let same = gave.all ∙ ap (λ (t : List (List ℕ)). t ++ gave.own) nothing in
      subst (λ (t : List (List ℕ)). GaveByRule check setup comings t counts) (sym same)
      (subst (λ (part : Part). GaveByRule check (begun_at setup part.first) part.comings gave.own counts) (one-part_last setup comings) gave.last)

-- the outcome by the rule
pub ruled-outcome : (check : List ℕ → Bool) (made : TableSetup) (k : ℕ) (flow_record : FlowRecord) (comings : List Coming) (flow : FlowOutcome)
    → made.channels ≡ channel_limit → flow.sfid ≡ flow_record.sfid
    → GaveByRule check (flow_setup made k flow_record) comings flow.frames.items flow.counts
    → IsRuledOutcome made.rule check (ruled_flow made.rows k flow_record) flow_record comings flow
ruled-outcome check made k flow_record comings flow four sfid gave = record {
  events = gave.events;
  lasts = gave.lasts;
  fates = gave.fates;
  ruled =
      subst (λ (n : ℕ). AreRuled made.rule (record { first = flow_record.first; width = flow_record.window; channels = channels_within n made.rows k }) comings gave.events gave.lasts gave.fates)
      four gave.ruled;
  gave = record {
    sfid = sfid;
    gives = record { n = gave.n; outcome = gave.outcome; closed = gave.closed };
  };
}
