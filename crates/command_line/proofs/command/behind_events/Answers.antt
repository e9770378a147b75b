use Rattle.std.proofs.lemmas.Bool.Decides.{Decides-eqb}
use Rattle.std.proofs.lemmas.Slice.Eq.{slice_eq-Decides}
use Rattle.command_line.specs.Command.{events_option}
use Rattle.command_line.proofs.AskedEvents.{events_first}
use Rattle.command_line.proofs.command.behind_events.Goals as goal

pub returns-in-len1-up : goal.returns-in-len1-up
returns-in-len1-up g c =
    let same = slice_eq-Decides Decides-eqb c.as_str.result.now events_option c.eq.result c.eq.ensures in
    events_first g.S.AsStr.text c.args.options.now c.in-len1-up.len_at_least c.first-item.result c.as_str.result.now c.first-item.is c.as_str.ensures
    (same.0 c.if-eq.true)
