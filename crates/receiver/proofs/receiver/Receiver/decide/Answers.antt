-- A decision is passed over, or comes to its flow.
use Rattle.std.proofs.Common.{◌≡◌, ◌≤◌, ◌⊎◌, inl, inr, true, false, Err, IfErr, [], ◌∷◌, length, refl, sym, ap, subst, ◌∙◌, arith}
use Rattle.std.proofs.lemmas.Result.{err_from_is_err_and}
use Rattle.bonded_flows.specs.declared.flow_slot.DecideFault.{DecideFault}
use Rattle.bonded_flows.specs.declared.flow_slot.DecideFault.TheVariants.{NotTaken}
use Rattle.bonded_flows.specs.declared.flow_slot.NotReady.TheVariants.{Closing}
use Rattle.bonded_flows.specs.ByRule.{is_in_range}
use Rattle.bonded_flows.specs.Slots.{LeavesOf}
use Rattle.bonded_flows.proofs.TableTurns.{leaves}
use Rattle.receiver.specs.HandedIn.{decided, flow_inputs, begun_with, came_since}
use Rattle.receiver.specs.Receiving.{TakesMore}
use Rattle.receiver.proofs.receiver.Receiver.decide.Goals.{then-flow-flow_count-via-then-flow-flow_count, then-flow-flow_count-via-else-flow-flow_count+then-not-is_in_range}
use Rattle.receiver.proofs.InputsTaken.{part-at, passed-over, taken-decision, decided-input, receiving-decided, takes-flows, takes-nothing, still-receiving}
use Rattle.receiver.proofs.receiver.Receiver.decide.Goals as goal

pub returns-then-flow-flow_count-clause-takes : goal.returns-then-flow-flow_count-clause-takes
returns-then-flow-flow_count-clause-takes g c =
    let none : (c.flow_count.result ≤ c.args.flow) ⊎ (is_in_range c.args.decision ≡ false) = elim c.then-flow-flow_count.branch [
      | then-flow-flow_count-via-then-flow-flow_count w ↦ inl w.if-flow-flow_count.true
      | then-flow-flow_count-via-else-flow-flow_count+then-not-is_in_range w ↦ inr (sym w.is_in_range.ensures.is ∙ w.if-not-is_in_range.true)
    ] in
    takes-nothing g.C.HeaderCheck.accepts g.O.Consumer.after c.args.self.now c.args.out.now (decided c.args.flow c.args.decision ∷ []) (λ channel. refl)
    (λ made count.
    decided-input (length made.records) c.args.flow c.args.decision false
    (passed-over (length made.records) c.args.flow c.args.decision (subst (λ n. (n ≤ c.args.flow) ⊎ (is_in_range c.args.decision ≡ false)) (c.flow_count.ensures ∙ count) none)))

pub returns-in_err-lost-clause-not_taken : goal.returns-in_err-lost-clause-not_taken
returns-in_err-lost-clause-not_taken g c =
    let inside = c.if-flow-flow_count.false in
    let in_range : is_in_range c.args.decision ≡ true = sym c.is_in_range.ensures.is ∙ c.if-not-is_in_range.false in
    let p = err_from_is_err_and c.from_residual.result c.from_residual.ensures.1 in
    subst (λ r. IfErr r (λ (fault : DecideFault). LeavesOf fault
    (TakesMore g.O.Consumer.after g.C.HeaderCheck.accepts c.args.self.now c.args.out.now [] (record { lanes = c.args.self.now.lanes; flows = c.decide.new.self }) c.decide.new.out)
    (TakesMore g.O.Consumer.after g.C.HeaderCheck.accepts c.args.self.now c.args.out.now (decided c.args.flow c.args.decision ∷ []) (record { lanes = c.args.self.now.lanes; flows = c.decide.new.self }) c.decide.new.out))) (sym p.1)
    (subst (λ (fault : DecideFault). LeavesOf fault
    (TakesMore g.O.Consumer.after g.C.HeaderCheck.accepts c.args.self.now c.args.out.now [] (record { lanes = c.args.self.now.lanes; flows = c.decide.new.self }) c.decide.new.out)
    (TakesMore g.O.Consumer.after g.C.HeaderCheck.accepts c.args.self.now c.args.out.now (decided c.args.flow c.args.decision ∷ []) (record { lanes = c.args.self.now.lanes; flows = c.decide.new.self }) c.decide.new.out)) (sym p.2)
    (leaves c.in_err-lost.field-0.0
    (λ takes. takes-flows g.C.HeaderCheck.accepts g.O.Consumer.after c.args.self.now _ c.args.out.now c.decide.new.out [] [] refl (λ channel. refl) (λ made count. refl) c.args.flow takes)
    (λ takes. takes-flows g.C.HeaderCheck.accepts g.O.Consumer.after c.args.self.now _ c.args.out.now c.decide.new.out (decided c.args.flow c.args.decision ∷ []) _ refl (λ channel. refl)
    (λ made count. decided-input (length made.records) c.args.flow c.args.decision true
    (taken-decision (length made.records) c.args.flow c.args.decision (omega (arith, c.flow_count.ensures)) in_range)) c.args.flow takes)
    c.in_err-lost.ensures.not_taken))

pub returns-in_err-lost-clause-receiving : goal.returns-in_err-lost-clause-receiving
returns-in_err-lost-clause-receiving g c =
    receiving-decided g.C.HeaderCheck.accepts g.O.Consumer.after c.args.self.now _ c.args.out.now c.decide.new.out c.requires.receiving _ c.from_residual.result (returns-in_err-lost-clause-not_taken g c) c.from_residual.ensures.0

pub returns-clause-takes : goal.returns-clause-takes
returns-clause-takes g c =
    let inside = c.if-flow-flow_count.false in
    let in_range : is_in_range c.args.decision ≡ true = sym c.is_in_range.ensures.is ∙ c.if-not-is_in_range.false in
    takes-flows g.C.HeaderCheck.accepts g.O.Consumer.after c.args.self.now _ c.args.out.now c.decide.new.out (decided c.args.flow c.args.decision ∷ []) _ refl (λ channel. refl)
    (λ made count. decided-input (length made.records) c.args.flow c.args.decision true
    (taken-decision (length made.records) c.args.flow c.args.decision (omega (arith, c.flow_count.ensures)) in_range)) c.args.flow c.in_ok-lost.ensures.takes

pub returns-clause-told : goal.returns-clause-told
returns-clause-told g c check made handed given stands flow_record of_record =
    let history = flow_inputs (length made.records) handed in
    let part = part-at g.C.HeaderCheck.accepts c.args.self.now.flows check made history given c.args.flow flow_record stands.flows of_record in
    c.in_ok-lost.ensures.told (begun_with made c.args.flow flow_record history) (came_since made c.args.flow flow_record history) part.own part.is_so

pub returns-clause-receiving : goal.returns-clause-receiving
returns-clause-receiving g c =
    still-receiving g.C.HeaderCheck.accepts g.O.Consumer.after c.args.self.now _ c.args.out.now c.decide.new.out _ c.requires.receiving (returns-clause-takes g c)

pub returns-in_err-lost-clause-closing : goal.returns-in_err-lost-clause-closing
returns-in_err-lost-clause-closing g c = λ is.
    let p = err_from_is_err_and c.from_residual.result c.from_residual.ensures.1 in
    let own = sym p.1 ∙ is in
    let told : p.0 ≡ NotTaken Closing = cc in
    c.in_err-lost.ensures.closing (ap Err (sym p.2 ∙ told))
