use Rattle.std.proofs.Common.{sym, ◌∙◌}
use Rattle.std.specs.Prelude.{map}
use Rattle.command_line.proofs.AskedFlows.{AsksForAnEngine-replay}
use Rattle.command_line.proofs.command.asks_alone.Goals as goal

pub returns-else-asks_to_map : goal.returns-else-asks_to_map
returns-else-asks_to_map g c = λ some.
    AsksForAnEngine-replay (map g.S.AsStr.text c.args.words.now) c.asked_replay_alone.result c.asked_replay_alone.ensures (sym c.is_some.ensures ∙ some)
