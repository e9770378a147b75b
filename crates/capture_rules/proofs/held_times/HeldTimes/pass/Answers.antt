use Rattle.std.proofs.Common.{rules}
use Rattle.std.proofs.lemmas.Fn.{filter_same}
use Rattle.capture_rules.specs.Held.{lies_ahead}
use Rattle.capture_rules.proofs.held_times.HeldTimes.pass.Goals as goal

pub returns-clause-ahead : goal.returns-clause-ahead
returns-clause-ahead c =
    filter_same _ (lies_ahead c.args.expected) _ (λ x b f' k. search rules) _ _ c.retain.ensures.filtered
