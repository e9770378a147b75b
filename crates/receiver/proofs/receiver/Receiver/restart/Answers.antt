-- The flow begins anew, or gave some of what it had left to give.
use Rattle.std.proofs.Common.{Bool, ℕ, List, OnErr, [], ◌∷◌, ◌++◌, length, refl, sym, subst}
use Rattle.std.proofs.lemmas.Result.{err_from_is_err_and}
use Rattle.consumer.specs.Given.{frames_of}
use Rattle.bonded_flows.specs.ByRule.{GaveByRule}
use Rattle.receiver.specs.HandedIn.{restarted, flow_inputs, begun_with, came_since}
use Rattle.receiver.specs.Receiving.{TakesMore}
use Rattle.receiver.proofs.InputsTaken.{part-at, since-so, stands-flows, takes-flows, still-receiving}
use Rattle.receiver.proofs.receiver.Receiver.restart.Goals as goal

pub returns-in_err-restart-clause-not_taken : goal.returns-in_err-restart-clause-not_taken
returns-in_err-restart-clause-not_taken g c =
    let p = err_from_is_err_and c.from_residual.result c.from_residual.ensures.1 in
    subst (λ r. OnErr r (TakesMore g.O.Consumer.after g.C.HeaderCheck.accepts c.args.self.now c.args.out.now [] (record { lanes = c.args.self.now.lanes; flows = c.restart.new.self }) c.restart.new.out)) (sym p.1)
    (takes-flows g.C.HeaderCheck.accepts g.O.Consumer.after c.args.self.now _ c.args.out.now c.restart.new.out [] [] refl (λ channel. refl) (λ made count. refl) c.args.flow c.in_err-restart.ensures.not_taken)

pub returns-in_err-restart-clause-receiving : goal.returns-in_err-restart-clause-receiving
returns-in_err-restart-clause-receiving g c =
    still-receiving g.C.HeaderCheck.accepts g.O.Consumer.after c.args.self.now _ c.args.out.now c.restart.new.out [] c.requires.receiving
    (takes-flows g.C.HeaderCheck.accepts g.O.Consumer.after c.args.self.now _ c.args.out.now c.restart.new.out [] [] refl (λ channel. refl) (λ made count. refl) c.args.flow c.in_err-restart.ensures.not_taken)

pub returns-clause-restarts : goal.returns-clause-restarts
returns-clause-restarts g c =
    let anew = c.in_ok-restart.ensures.begins_anew in
    record {
      more = anew.more;
      was_given = anew.was_given;
      stands = stands-flows g.C.HeaderCheck.accepts g.O.Consumer.after c.args.self.now _ c.args.out.now c.restart.new.out (restarted c.args.flow c.args.first ∷ []) _ refl (λ channel. refl) (λ made count. refl) c.args.flow anew.more anew.stands;
      gave = λ check made handed given flow_record stands of_record.
          let history = flow_inputs (length made.records) handed in
          since-so (frames_of c.args.flow given)
          (λ own part.
          subst (λ (accepted : List ℕ → Bool). GaveByRule accepted (begun_with made c.args.flow flow_record history) (came_since made c.args.flow flow_record history) (own ++ anew.more) c.in_ok-restart.field-0) stands.flows.check_is
          (anew.gave (begun_with made c.args.flow flow_record history) (came_since made c.args.flow flow_record history) own part))
          (part-at g.C.HeaderCheck.accepts c.args.self.now.flows check made history given c.args.flow flow_record stands.flows of_record);
    }

pub returns-clause-receiving : goal.returns-clause-receiving
returns-clause-receiving g c =
    let anew = c.in_ok-restart.ensures.begins_anew in
    still-receiving g.C.HeaderCheck.accepts g.O.Consumer.after c.args.self.now _ c.args.out.now c.restart.new.out (restarted c.args.flow c.args.first ∷ []) c.requires.receiving
    (takes-flows g.C.HeaderCheck.accepts g.O.Consumer.after c.args.self.now _ c.args.out.now c.restart.new.out (restarted c.args.flow c.args.first ∷ []) _ refl (λ channel. refl) (λ made count. refl) c.args.flow
    (record { more = anew.more; was_given = anew.was_given; stands = anew.stands }))
