use Rattle.std.proofs.Common.{ap, ◌∙◌, set}
use Rattle.std.proofs.Math.Seq.{map-set_same}
use Rattle.std.proofs.lemmas.List.{map-set}
use Rattle.loss_rule.specs.declared.known_channel.KnownChannel.{KnownChannel}
use Rattle.loss_rule.specs.Numbers.{distances_of, distance_from}
use Rattle.loss_rule.proofs.last_numbers.LastNumbers.note.Goals as goal

pub returns-clause-carried : goal.returns-clause-carried
returns-clause-carried c =
    map-set_same (λ (one : KnownChannel). one.carried) c.args.self.now.channels.items c.args.channel _ c.index.result.now (ap (λ (one : KnownChannel). one.carried) c.index.ensures)

pub returns-clause-distances : goal.returns-clause-distances
returns-clause-distances c =
    map-set (λ (one : KnownChannel). distance_from c.args.self.now.reached.at one.last) c.args.self.now.channels.items c.args.channel _
    ∙ ap (set (distances_of c.args.self.now) c.args.channel) c.place_ahead-last.ensures
