-- A decision is handed in.
use Rattle.std.proofs.Common.{ℕ, length, refl, ap, ◌∙◌}
use Rattle.bonded_flows.proofs.SlotTurns.{on-ok}
use Rattle.receiver.specs.Entries.{decided}
use Rattle.receiver.specs.HandedOrder.{gives_item, handed_decision}
use Rattle.receiver.proofs.ReplayedEntries.{replays-more, still-replaying, playing-now, decision-recorded, decision-entry}
use Rattle.receiver.proofs.replaying.Replaying.decide.Goals as goal

pub take_decision-requires : goal.take_decision-requires
take_decision-requires g c = record { playing = playing-now g.C.HeaderCheck.accepts c.args.self.now c.requires.replaying }

pub returns-clause-replays : goal.returns-clause-replays
returns-clause-replays g c =
    let taken = c.in_ok-is_item.ensures in
    on-ok c.append_if.result
    (λ _ appended. replays-more g.C.HeaderCheck.accepts c.args.self.now _ (handed_decision c.args.decision) (decided c.args.decision)
    (decision-recorded c.args.decision) (decision-entry c.args.decision) taken.plays c.in_ok-is_item.is_item _ refl appended
    (λ rule check setup handed plays. taken.told ∙ ap (λ (n : ℕ). gives_item n (handed_decision c.args.decision)) plays.stands.flows.flow_count))
    c.append_if.ensures

pub returns-clause-replaying : goal.returns-clause-replaying
returns-clause-replaying g c =
    on-ok c.append_if.result
    (λ _ more. still-replaying g.C.HeaderCheck.accepts c.args.self.now _ (decided c.args.decision) c.requires.replaying more (ap length c.in_ok-is_item.ensures.places ∙ c.requires.replaying.five))
    (returns-clause-replays g c)
