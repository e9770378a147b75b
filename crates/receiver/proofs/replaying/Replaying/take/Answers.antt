-- An input is handed in.
use Rattle.std.proofs.Common.{ℕ, length, refl, ap, subst, ◌∙◌}
use Rattle.bonded_flows.proofs.SlotTurns.{on-ok}
use Rattle.receiver.specs.HandedIn.{came}
use Rattle.receiver.specs.Entries as entries
use Rattle.receiver.specs.Playing.{PlaysInput}
use Rattle.receiver.proofs.PlayingTurns.{admitted-item}
use Rattle.receiver.proofs.ReplayedEntries.{replays-more, still-replaying, playing-now}
use Rattle.receiver.proofs.replaying.Replaying.take.Goals as goal

pub take_input-requires-clause-playing : goal.take_input-requires-clause-playing
take_input-requires-clause-playing g c = playing-now g.C.HeaderCheck.accepts c.args.self.now c.requires.replaying

pub returns-clause-replays : goal.returns-clause-replays
returns-clause-replays g c =
    let accepts = g.C.HeaderCheck.accepts in
    let channel = c.args.channel in
    let taken = subst (λ (on : ℕ). PlaysInput accepts c.args.self.now.playing on c.args.input c.in_ok-is_item.is_item c.take_input.new.self) c.from.ensures c.in_ok-is_item.ensures in
    on-ok c.append_if.result
    (λ _ appended. replays-more accepts c.args.self.now _ (came channel (record { input = c.args.input; answer = taken.answer })) (entries.came channel c.args.input)
    c.requires.channel refl taken.plays c.in_ok-is_item.is_item channel refl appended
    (λ rule check setup handed plays. taken.told ∙ admitted-item (length setup.flows.items) channel (record { input = c.args.input; answer = taken.answer })))
    c.append_if.ensures

pub returns-clause-replaying : goal.returns-clause-replaying
returns-clause-replaying g c =
    on-ok c.append_if.result
    (λ _ more. still-replaying g.C.HeaderCheck.accepts c.args.self.now _ (entries.came c.args.channel c.args.input) c.requires.replaying more
    (ap length c.in_ok-is_item.ensures.places ∙ c.requires.replaying.five))
    (returns-clause-replays g c)
