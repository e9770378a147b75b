-- What a bonded flow is made with.
use Rattle.std.specs.Prelude.{ℕ, Bool, List}
use Rattle.flow_records.specs.declared.record.FlowRecord.{FlowRecord}
use Rattle.loss_rule.specs.declared.rule.LossRule.{LossRule}
use Rattle.loss_rule.specs.Rule.{RuledFlow}

-- The index under which its frames are given, the rule by which it decides that segments are lost,
-- its record, and of each channel whether the flow has a service identifier there.
pub record FlowSetup : Type 0 where
  pub index : ℕ
  pub rule : LossRule
  pub flow_record : FlowRecord
  pub channels : List Bool

-- what the rule has to know of it
abbrev pub ruled_flow : FlowSetup → RuledFlow
ruled_flow setup = record { first = setup.flow_record.first; width = setup.flow_record.window; channels = setup.channels }
