use Rattle.std.proofs.Common.{◌≡◌, ℕ, Bool, Result, IfOk, List, ◌++◌, subst}
use Rattle.std.specs.declared.alloc.AllocError.{AllocError}
use Rattle.loss_rule.specs.Rule.{Coming}
use Rattle.bonded_flows.specs.declared.flow_slot.DecideFault.TheVariants.{NotTaken}
use Rattle.bonded_flows.specs.declared.flow_slot.NotReady.TheVariants.{Closing}
use Rattle.bonded_flows.specs.FlowSetup.{FlowSetup}
use Rattle.bonded_flows.specs.ByRule.{decision_event, IsToldLost}
use Rattle.bonded_flows.specs.Slots.{PartStands}
use Rattle.bonded_flows.proofs.SlotTurns.{still-in_use, slot-takes-then, same}
use Rattle.bonded_flows.proofs.flow_slot.FlowSlot.prepare_and_decide.Goals as goal

pub decide_prepared-requires-clause-in_use : goal.decide_prepared-requires-clause-in_use
decide_prepared-requires-clause-in_use g c =
    still-in_use g.O.Consumer.after (g.C.HeaderCheck.accepts c.args.check.now) c.args.self.now c.prepare.new.self c.args.out.now c.prepare.new.out c.requires.in_use c.prepare.ensures.takes

pub returns-in-Ok-clause-takes : goal.returns-in-Ok-clause-takes
returns-in-Ok-clause-takes g c =
    slot-takes-then g.O.Consumer.after (g.C.HeaderCheck.accepts c.args.check.now) c.args.self.now c.prepare.new.self c.args.out.now c.prepare.new.out c.requires.in_use c.prepare.ensures.takes
    c.decide_prepared.new.out _ c.decide_prepared.new.self c.decide_prepared.ensures.takes

pub returns-in-Err-clause-not_taken : goal.returns-in-Err-clause-not_taken
returns-in-Err-clause-not_taken g c =
    slot-takes-then g.O.Consumer.after (g.C.HeaderCheck.accepts c.args.check.now) c.args.self.now c.prepare.new.self c.args.out.now c.prepare.new.out c.requires.in_use c.prepare.ensures.takes
    c.decide_prepared.new.out _ c.decide_prepared.new.self c.decide_prepared.ensures.takes

pub returns-in-Ok-clause-told : goal.returns-in-Ok-clause-told
returns-in-Ok-clause-told g c = λ setup comings given stands.
    let check = g.C.HeaderCheck.accepts c.args.check.now in
    let told = subst (λ (result : Result Bool AllocError). IfOk result (λ lost.
    (setup : FlowSetup) (comings : List Coming) (given : List (List ℕ)) → PartStands check setup c.prepare.new.self comings given
    → IsToldLost setup comings (decision_event c.args.decision) lost)) c.in-Ok.is c.decide_prepared.ensures.told in
    told setup comings (given ++ c.prepare.ensures.takes.more)
    (same g.O.Consumer.after check c.args.self.now c.prepare.new.self c.args.out.now c.prepare.new.out c.requires.in_use c.prepare.ensures.takes setup comings given stands)

pub returns-in_err-prepare-clause-closing : goal.returns-in_err-prepare-clause-closing
returns-in_err-prepare-clause-closing g c = λ is.
    let same : NotTaken Closing ≡ NotTaken c.in_err-prepare.field-0.0 = rw is at c.from_residual.ensures.1 in
    c.in_err-prepare.ensures.closing cc
