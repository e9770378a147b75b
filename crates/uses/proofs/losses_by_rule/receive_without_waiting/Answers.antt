-- What each flow gave, by the laws of the receiver; and that an admitted order has no fault.
use Rattle.std.proofs.Common.{◌≡◌, ◌≢◌, ℕ, List, [], Vec, map, sym, subst}
use Rattle.std.specs.Global.{Global}
use Rattle.std.proofs.lemmas.Result.{err_from_is_err_and}
use Rattle.lane.specs.declared.input.Input.{Input}
use Rattle.loss_rule.specs.declared.rule.LossRule.TheVariants.{Decided, PassedOrSlid}
use Rattle.receiver.specs.declared.one_thread.ReplayFault.{ReplayFault}
use Rattle.receiver.specs.declared.one_thread.ReplayFault.TheVariants.{Setup as AtSetup, Lane as AtLane, BadOrder, OutOfMemory}
use Rattle.flow_records.specs.declared.decision.Decision.{Decision}
use Rattle.receiver.specs.declared.setup.Setup.{Setup}
use Rattle.receiver.specs.Faults.{HasBadOrder, IsReplayFault, IsTagsFault}
use Rattle.receiver.specs.Items.{Incoming, incoming_from}
use Rattle.receiver.specs.Ruled.{ruled_flow, comings_at, IsOutcomeBy}
use Rattle.uses.specs.LossesByRule.{AreFlowsBy, GaveTheFramesThatAllCame}
use Rattle.uses.proofs.losses_by_rule.receive_without_waiting.Goals as goal

-- what slides isn't what decisions alone decide
slid-asks : PassedOrSlid ≢ Decided
slid-asks is = cc

-- where the order has no fault, that of a replay is one of the tags
fault-of_tags : (setup : Setup) (incoming : Incoming) (tags order : List ℕ) (fault : ReplayFault) → ((k : ℕ) → ¬ (HasBadOrder setup incoming order k))
    → IsReplayFault setup incoming order fault → IsTagsFault setup incoming tags fault
fault-of_tags setup incoming tags order (AtSetup fault) faultless is = is
fault-of_tags setup incoming tags order (AtLane fault) faultless is = is
fault-of_tags setup incoming tags order (BadOrder k) faultless is = absurd (faultless k is.1)
fault-of_tags setup incoming tags order OutOfMemory faultless is = is

module _ (setup : Setup) (recorded : List (List Input)) (tags : List ℕ) where
  -- a fault where no decision is handed in, from one where the list of them is empty
  abbrev IsFaultWith : List Decision → ReplayFault → Type 0
  IsFaultWith decisions = IsTagsFault setup (incoming_from recorded decisions) tags

  undecided-fault : (decisions : List Decision) (fault other : ReplayFault) → decisions ≡ [] → other ≡ fault → IsFaultWith decisions fault → IsFaultWith [] other
  undecided-fault decisions fault other none same is = subst (λ d. IsFaultWith d other) none (subst (IsFaultWith decisions) (sym same) is)

pub returns-in_err-order-clause-fault : goal.returns-in_err-order-clause-fault
returns-in_err-order-clause-fault g c =
    let p = err_from_is_err_and c.from_residual.result c.from_residual.ensures.1 in
    rw p.1 (undecided-fault c.args.setup.now (map (λ (inputs : Vec Input Global). inputs.items) c.args.inputs) c.args.tags.now c.new.result.items c.in_err-order.field-0.0 p.0 c.new.ensures.items p.2
    c.in_err-order.ensures.fault)

pub returns-in_err-outcome-clause-fault : goal.returns-in_err-outcome-clause-fault
returns-in_err-outcome-clause-fault g c =
    let p = err_from_is_err_and c.from_residual-in_err-outcome.result c.from_residual-in_err-outcome.ensures.1 in
    let setup = c.args.setup.now in
    let recorded = map (λ (inputs : Vec Input Global). inputs.items) c.args.inputs in
    let incoming = incoming_from recorded c.new.result.items in
    let order = c.in_ok-order.order.items in
    let fault = c.in_err-outcome.field-0.0 in
    let of_order : IsReplayFault setup incoming order fault = subst (λ o. IsReplayFault setup incoming o fault) c.deref.ensures.value c.in_err-outcome.ensures.fault in
    let faultless = λ (k : ℕ). c.admitted_order_is_lawful.ensures.faultless setup incoming c.args.tags.now order k c.in_ok-order.ensures.can_receive c.in_ok-order.ensures.order in
    rw p.1 (undecided-fault setup recorded c.args.tags.now c.new.result.items fault p.0 c.new.ensures.items p.2
    (fault-of_tags setup incoming c.args.tags.now order fault faultless of_order))

pub returns-clause-gave : goal.returns-clause-gave
returns-clause-gave g c =
    let check = g.C.HeaderCheck.accepts c.args.check in
    let setup = c.args.setup.now in
    let recorded = map (λ (inputs : Vec Input Global). inputs.items) c.args.inputs in
    let incoming = incoming_from recorded c.new.result.items in
    let order = c.in_ok-order.order.items in
    let outcome = c.in_ok-outcome.outcome in
    let answer : IsOutcomeBy PassedOrSlid check setup incoming order outcome =
    subst (λ o. IsOutcomeBy PassedOrSlid check setup incoming o outcome) c.deref.ensures.value c.in_ok-outcome.ensures.outcome in
    subst (λ (decisions : List Decision). GaveTheFramesThatAllCame check setup (incoming_from recorded decisions) c.args.tags.now outcome.flows.items) c.new.ensures.items
    (record {
      order = order;
      admitted = c.in_ok-order.ensures.order;
      intake = answer.intake;
      flow_count = answer.flows.count;
      frames_given = λ k r flow frames of_flow there modem.
          c.flows_give_the_frames_that_all_came.ensures.frames PassedOrSlid check setup incoming order outcome k r flow frames slid-asks c.in_ok-outcome.ensures.can_receive answer of_flow there
          modem (c.decisions_about_the_past_are_safe.ensures.undecided PassedOrSlid (ruled_flow setup.sids.items k r) (comings_at k order answer.intake.items) modem.index_at
          (c.segments_come_on_channels_of_their_flow.ensures.no_decision setup incoming order answer.intake k c.new.ensures.items));
    })

pub returns-clause-by_rule : goal.returns-clause-by_rule
returns-clause-by_rule g c =
    let check = g.C.HeaderCheck.accepts c.args.check in
    let setup = c.args.setup.now in
    let recorded = map (λ (inputs : Vec Input Global). inputs.items) c.args.inputs in
    let incoming = incoming_from recorded c.new.result.items in
    let order = c.in_ok-order.order.items in
    let outcome = c.in_ok-outcome.outcome in
    let answer : IsOutcomeBy PassedOrSlid check setup incoming order outcome =
    subst (λ o. IsOutcomeBy PassedOrSlid check setup incoming o outcome) c.deref.ensures.value c.in_ok-outcome.ensures.outcome in
    subst (λ (decisions : List Decision). AreFlowsBy PassedOrSlid check setup (incoming_from recorded decisions) c.args.tags.now outcome.flows.items) c.new.ensures.items
    (record { order = order; admitted = c.in_ok-order.ensures.order; intake = answer.intake; flows_are = answer.flows })
