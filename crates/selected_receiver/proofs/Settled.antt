-- Of no flow something is left to be done.
use Rattle.std.proofs.Common.{◌≡◌, ◌≢◌, ℕ, Ok, refl, sym, subst, ap, ◌∙◌, ⊎_elim}
use Rattle.std.proofs.lemmas.Bool.{cases_eq}
use Rattle.bonded_flows.specs.declared.flow_table.FlowTable.{FlowTable}
use Rattle.bonded_flows.specs.declared.flow_slot.FlowSlot.{FlowSlot}
use Rattle.bonded_flows.specs.Table.{IsAtRestAt, OthersStay}
use Rattle.receiver.specs.declared.receiver.Receiver.{Receiver}
use Rattle.receiver.specs.declared.reply.Reply.{Reply}
use Rattle.receiver.specs.declared.reply.Reply.TheVariants as reply
use Rattle.receiver.specs.declared.reply.DecisionReply.{DecisionReply}
use Rattle.receiver.specs.declared.reply.DecisionReply.TheVariants as decision_reply
use Rattle.receiver.specs.Receiving.{IsSettledIfTaken, ChangesOneFlow, FlowIsSettled}

module _ {C : Type 0} where
  -- of no flow of the table
  abbrev pub AllAtRest : FlowTable C → Type 0
  AllAtRest table = (j : ℕ) → IsAtRestAt table j

  pub rest-of_others : (table table' : FlowTable C) (k : ℕ) → OthersStay table k table' → IsAtRestAt table' k → AllAtRest table → AllAtRest table'
  rest-of_others table table' k others own all j =
      ⊎_elim
      (λ (same : j ≡ k). subst (IsAtRestAt table') (sym same) own)
      (λ (apart : j ≢ k). λ (slot : FlowSlot) at. all j slot (sym (others j apart) ∙ at))
      (cases_eq j k)

  pub rest-same : (table table' : FlowTable C) → table' ≡ table → AllAtRest table → AllAtRest table'
  rest-same table table' same all = subst AllAtRest (sym same) all

  pub rest-decided : (r r' : Receiver C) (k : ℕ) (answer : DecisionReply) → OthersStay r.flows k r'.flows → IsSettledIfTaken r' k answer
      → (answer ≡ decision_reply.PassedOver → r' ≡ r) → AllAtRest r.flows → AllAtRest r'.flows
  rest-decided r r' k decision_reply.PassedOver others settled unchanged all = rest-same r.flows r'.flows (ap (λ (x : Receiver C). x.flows) (unchanged refl)) all
  rest-decided r r' k (decision_reply.Taken lost) others settled unchanged all = rest-of_others r.flows r'.flows k others settled all

  pub rest-replied : (r r' : Receiver C) (answer : Reply) → ChangesOneFlow r.flows (Ok answer) r'.flows → FlowIsSettled r' answer → AllAtRest r.flows → AllAtRest r'.flows
  rest-replied r r' reply.Granted changes settled all = rest-same r.flows r'.flows changes all
  rest-replied r r' (reply.Refused refusal) changes settled all = rest-same r.flows r'.flows changes all
  rest-replied r r' (reply.Admitted flow sequence told) changes settled all = rest-of_others r.flows r'.flows flow changes settled all
