-- The next decision is handed in.
use Rattle.std.proofs.Common.{ℕ, ◌+◌, List, ◌∷◌, [], ◌++◌, length, slice_index_or, slice_set, refl, sym, ap, subst, ◌∙◌}
use Rattle.std.proofs.lemmas.List.{length-set}
use Rattle.lane.specs.Limits.{channel_limit}
use Rattle.flow_records.specs.declared.decision.Decision.{Decision}
use Rattle.receiver.specs.Items.{incoming_of}
use Rattle.receiver.specs.HandedOrder.{gives_item, handed_decision, IsHandedFrom}
use Rattle.receiver.proofs.PlayingTurns.{plays-placed, plays-next, still-playing, from-decision}
use Rattle.receiver.proofs.playing.Playing.take_next_decision.Goals as goal

pub returns-clause-takes : goal.returns-clause-takes
returns-clause-takes g c =
    let accepts = g.C.HeaderCheck.accepts in
    let playing = c.args.self.now in
    let taken = c.in_ok-is_item.ensures in
    let decision : Decision = c.index.result.now in
    let incoming = incoming_of c.args.lists.now in
    let next = slice_index_or playing.places channel_limit 0 + 1 in
    plays-next accepts playing _ (handed_decision decision) incoming channel_limit c.in_ok-is_item.is_item
    (plays-placed accepts playing c.take_decision.new.self (handed_decision decision) (slice_set c.take_decision.new.self.places channel_limit next) taken.plays)
    (λ handed from. subst (λ (places : List ℕ). IsHandedFrom incoming (slice_set places channel_limit next) (handed ++ handed_decision decision ∷ [])) (sym taken.places)
    (from-decision incoming playing.places handed from decision c.requires.left c.index.ensures))
    (λ rule check setup handed plays. taken.told ∙ ap (λ (n : ℕ). gives_item n (handed_decision decision)) plays.stands.flows.flow_count)
    refl

pub returns-clause-playing : goal.returns-clause-playing
returns-clause-playing g c =
    let accepts = g.C.HeaderCheck.accepts in
    let playing = c.args.self.now in
    let taken = c.in_ok-is_item.ensures in
    let decision : Decision = c.index.result.now in
    let next = slice_index_or playing.places channel_limit 0 + 1 in
    still-playing accepts playing _ (handed_decision decision) c.requires.playing
    (plays-placed accepts playing c.take_decision.new.self (handed_decision decision) (slice_set c.take_decision.new.self.places channel_limit next) taken.plays)
    (length-set c.take_decision.new.self.places channel_limit next ∙ ap (λ (places : List ℕ). length places) taken.places ∙ c.requires.playing.five)
