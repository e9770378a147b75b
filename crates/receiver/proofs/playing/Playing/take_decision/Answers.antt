-- A decision is handed in.
use Rattle.std.proofs.Common.{List, Vec, Global, [], ◌∷◌, refl, sym, subst, append-nil}
use Rattle.bonded_flows.specs.declared.decision.FlowDecision.{FlowDecision}
use Rattle.consumer.specs.Collecting.{HasCollected}
use Rattle.receiver.specs.HandedIn.{decided}
use Rattle.receiver.specs.HandedOrder.{handed_decision}
use Rattle.receiver.specs.Receiving.{TakesMore}
use Rattle.receiver.proofs.PlayingTurns.{RefusalsGrow, plays-one}
use Rattle.receiver.proofs.playing.Playing.take_decision.Goals as goal

-- no input came
unrefused : (refused : List (Vec _ Global)) (decision : _) → RefusalsGrow refused (handed_decision decision) refused
unrefused refused decision = record { many = refl; grow = λ channel below. sym (append-nil _) }

pub returns-in-Ok-Taken-clause-plays : goal.returns-in-Ok-Taken-clause-plays
returns-in-Ok-Taken-clause-plays g c =
    plays-one g.C.HeaderCheck.accepts c.args.self.now _ (handed_decision c.args.decision)
    (subst (λ (lost : FlowDecision). TakesMore HasCollected g.C.HeaderCheck.accepts c.args.self.now.receiver c.args.self.now.collected (decided c.args.decision.flow lost ∷ []) c.decide.new.self c.decide.new.out)
    c.decided.ensures c.in-Ok-Taken.ensures.takes)
    (unrefused c.args.self.now.refused.items c.args.decision)

pub returns-in-Ok-PassedOver-clause-plays : goal.returns-in-Ok-PassedOver-clause-plays
returns-in-Ok-PassedOver-clause-plays g c =
    plays-one g.C.HeaderCheck.accepts c.args.self.now _ (handed_decision c.args.decision)
    (subst (λ (lost : FlowDecision). TakesMore HasCollected g.C.HeaderCheck.accepts c.args.self.now.receiver c.args.self.now.collected (decided c.args.decision.flow lost ∷ []) c.decide.new.self c.decide.new.out)
    c.decided.ensures c.in-Ok-PassedOver.ensures.takes)
    (unrefused c.args.self.now.refused.items c.args.decision)
