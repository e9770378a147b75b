use Rattle.std.proofs.Common.{rules}
use Rattle.command_line.proofs.command.read_with_options.Goals as goal

pub returns-2 : goal.returns-2
returns-2 g c = ((c.asked_rule_of-run_rule.ensures c.in-Some-run_rule.rule).0 c.in-Some-run_rule.is, search rules, search rules)

pub returns-3 : goal.returns-3
returns-3 g c =
    let asks = (c.asked_rule_of-follow_rule.ensures c.in-Some-follow_rule.rule).0 c.in-Some-follow_rule.is in
    let channels = c.in-Some-asked_channels_of.channels in
    let wide = (c.asked_channels_of.ensures channels).0 c.in-Some-asked_channels_of.is in
    ((asks.0, asks.1, wide.1), c.asked_events-events.ensures asks.0, c.in_ok-flows.ensures)

pub returns-4 : goal.returns-4
returns-4 g c =
    let asks = (c.asked_rule_of-replay_rule.ensures c.in-Some-replay_rule.rule).0 c.in-Some-replay_rule.is in
    (asks.0, asks.1, c.in_ok-flows-2.ensures)
