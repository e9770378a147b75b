-- A frame of the flow was handed on.
use Rattle.std.proofs.Common.{◌≡◌, ℕ, List, ◌++◌, ◌∷◌, [], refl, ap, ◌∙◌, arith, rules}
use Rattle.delivery.specs.Feeders.{offered}
use Rattle.uses.proofs.HandingOn.{hands-on-own}
use Rattle.uses.proofs.handed_on.HandsOnConsumer.frame.Goals as goal

pub returns-else-not-hand_on : goal.returns-else-not-hand_on
returns-else-not-hand_on g c = λ start given has.
    let grew : offered c.hand_on.new.feeder ≡ offered c.args.self.now.feeder ++ c.into_vec.result.items ∷ [] = search (rules, c.if-not-hand_on.ensures.offered) in
    let own : c.args.flow ≡ c.args.self.now.flow = omega (arith, c.if-flow-self.false) in
    hands-on-own start given c.args.self.now has
    (record { rt = c.args.self.now.rt; flow = c.args.self.now.flow; feeder = c.hand_on.new.feeder; is_whole = c.args.self.now.is_whole })
    c.args.flow c.args.frame own refl c.hand_on.ensures.ring
    (λ whole. (whole, grew ∙ ap (λ (bytes : List ℕ). offered c.args.self.now.feeder ++ bytes ∷ []) c.into_vec.ensures))
