-- For which flows options ask that ask for a loss rule at most: for all.
use Rattle.std.proofs.Common.{◌≡◌, inl, inr, ℕ, Bool, true, Option, Some, None, List, ◌++◌, get_or, refl, ap, arith}
use Rattle.std.specs.Prelude.{is_some, ◌↔◌}
use Rattle.flow_selection.specs.declared.selection.Selection.TheVariants.{All}
use Rattle.loss_rule.specs.declared.rule.LossRule.{LossRule}
use Rattle.command_line.specs.OptionWords.{IsOption}
use Rattle.command_line.specs.Losses.{rule_name, losses_option, AskForRuleAlone}
use Rattle.command_line.specs.Flows.{flows_option, shard_option, AskForFlows}
use Rattle.command_line.specs.Command.{options_in, events_option, last_replayed, AskToFollowAlone, AsksToReplayBy, AsksToReplayFlows, AsksForAnEngine}
use Rattle.command_line.proofs.AskedEvents.{each_follow_alone}
use Rattle.command_line.proofs.AskedRules.{name_without_dash, each_alone, AskForRule-alone}

flows_not_losses : (rest : List ℕ) → ¬ IsOption flows_option (losses_option ++ rest)
flows_not_losses rest (inl bare) = let at : 108 ≡ 102 = ap (λ text. get_or text 2 0) bare in omega (arith, at)
flows_not_losses rest (inr with) = let at : 108 ≡ 102 = ap (λ text. get_or text 2 0) with.1 in omega (arith, at)

flows_no_rule : (rule : LossRule) → ¬ IsOption flows_option (rule_name rule)
flows_no_rule rule (inl bare) = name_without_dash rule (ap (λ text. get_or text 0 0) bare)
flows_no_rule rule (inr with) = name_without_dash rule (ap (λ text. get_or text 0 0) with.1)

shard_not_losses : (rest : List ℕ) → ¬ IsOption shard_option (losses_option ++ rest)
shard_not_losses rest (inl bare) = let at : 108 ≡ 115 = ap (λ text. get_or text 2 0) bare in omega (arith, at)
shard_not_losses rest (inr with) = let at : 108 ≡ 115 = ap (λ text. get_or text 2 0) with.1 in omega (arith, at)

shard_no_rule : (rule : LossRule) → ¬ IsOption shard_option (rule_name rule)
shard_no_rule rule (inl bare) = name_without_dash rule (ap (λ text. get_or text 0 0) bare)
shard_no_rule rule (inr with) = name_without_dash rule (ap (λ text. get_or text 0 0) with.1)

pub AskForFlows-alone : (last : ℕ) (rule : LossRule) (options : List (List ℕ)) → AskForRuleAlone rule options → AskForFlows last All options
AskForFlows-alone last rule options alone = (
  each_alone (λ word. ¬ IsOption shard_option word) shard_not_losses shard_no_rule rule options alone,
  each_alone (λ word. ¬ IsOption flows_option word) flows_not_losses flows_no_rule rule options alone,
)

-- and events change nothing of that
flows_not_events : ¬ IsOption flows_option events_option
flows_not_events (inl bare) = let at : 101 ≡ 102 = ap (λ text. get_or text 2 0) bare in omega (arith, at)
flows_not_events (inr with) = let at : 101 ≡ 102 = ap (λ text. get_or text 2 0) with.1 in omega (arith, at)

shard_not_events : ¬ IsOption shard_option events_option
shard_not_events (inl bare) = let at : 101 ≡ 115 = ap (λ text. get_or text 2 0) bare in omega (arith, at)
shard_not_events (inr with) = let at : 101 ≡ 115 = ap (λ text. get_or text 2 0) with.1 in omega (arith, at)

pub AskForFlows-follow : (last : ℕ) (rule : LossRule) (events : Bool) (options : List (List ℕ)) → AskToFollowAlone rule events options → AskForFlows last All options
AskForFlows-follow last rule events options alone = (
  each_follow_alone (λ word. ¬ IsOption shard_option word) shard_not_losses shard_no_rule shard_not_events rule events options alone,
  each_follow_alone (λ word. ¬ IsOption flows_option word) flows_not_losses flows_no_rule flows_not_events rule events options alone,
)

-- so words that ask to replay by a rule and for nothing else ask for all flows
pub AsksToReplayFlows-alone : (rule : LossRule) (words : List (List ℕ)) → AsksToReplayBy rule words → AsksToReplayFlows rule All words
AsksToReplayFlows-alone rule words asks =
    (asks.0, AskForRule-alone rule (options_in words) asks.1, AskForFlows-alone last_replayed rule (options_in words) asks.1)

-- and for an engine
pub AsksForAnEngine-replay : (words : List (List ℕ)) (result : Option LossRule) → ((rule : LossRule) → (result ≡ Some rule) ↔ AsksToReplayBy rule words)
    → is_some result ≡ true → AsksForAnEngine words
AsksForAnEngine-replay words None asked some = absurd cc
AsksForAnEngine-replay words (Some rule) asked some = inr (inr (inl (rule, All, AsksToReplayFlows-alone rule words ((asked rule).0 refl))))
