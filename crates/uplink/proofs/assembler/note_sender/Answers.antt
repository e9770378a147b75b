-- The sender is appended to the order that there is.
use Rattle.std.proofs.Common.{[], ◌∷◌, ℕ, Option, Some, Vec, Global, refl, sym, subst}
use Rattle.uplink.specs.Inside.Offering.{HasOrder}
use Rattle.uplink.proofs.assembler.note_sender.Goals as goal

pub returns-in_ok-push : goal.returns-in_ok-push
returns-in_ok-push c =
    subst (λ (o : Option (Vec ℕ Global)). HasOrder o (c.args.sender ∷ []) (Some c.push.new.self)) (sym c.in-Some.is)
    (c.push.new.self, refl, c.in_ok-push.ensures.items)
