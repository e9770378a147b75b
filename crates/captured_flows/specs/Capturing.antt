-- The flows of a capture with a map, and the receiver behind them.
use Rattle.std.specs.Prelude.{ℕ, Bool, List, length, fold}
use Rattle.bonded_flows.specs.Table.{TableSetup}
use Rattle.capture_rules.specs.declared.clock_counts.ClockCounts.{ClockCounts}
use Rattle.capture_rules.specs.Clock.{none_counted, clocks_of_both}
use Rattle.captured_flows.specs.Acts.{Act}
use Rattle.captured_flows.specs.declared.captured_burst.CapturedBurst.{CapturedBurst}
use Rattle.captured_flows.specs.declared.burst_taken.BurstTaken.{BurstTaken}
use Rattle.captured_flows.specs.declared.captured_flows.CapturedFlows.{CapturedFlows}
use Rattle.captured_flows.specs.Flow.{FlowView}
use Rattle.captured_flows.specs.SidFlows.{HasFlowsOf}
use Rattle.captured_flows.specs.Captures.{SpellsBurst, SpellsBursts, EndsAll}
use Rattle.selected_receiver.specs.Whole.{IsAtHand}
use Rattle.captured_flows.specs.Seen.{flow_seen}
use Rattle.captured_flows.specs.Together.{HaveWaits, views_of}

module _ {C : Type 0} where
  -- what is known of each flow
  abbrev pub views_in : CapturedFlows C → List FlowView
  views_in captured = views_of captured.flows.items

  -- how often the times of all flows' bursts couldn't be gone by
  abbrev pub clock_counts_in : CapturedFlows C → ClockCounts
  clock_counts_in captured = fold (λ counts flow. clocks_of_both counts (flow_seen flow).order.counts) none_counted captured.flows.items

  -- the receiver is at hand, and the flows are those of the map
  pub record IsCapturing (accepts : C → List ℕ → Bool) (captured : CapturedFlows C) : Type 0 where
    pub at_hand : IsAtHand accepts captured.receiver
    pub waits : HaveWaits captured.waits captured.flows.items
    pub sids : HasFlowsOf captured.map.sids.items captured.sids

  -- **What a burst spells**, of which this is told
  abbrev pub SpellsNext : CapturedFlows C → CapturedBurst → BurstTaken → CapturedFlows C → TableSetup → List Act → List Act → Type 0
  SpellsNext old burst told new made handed more =
      SpellsBurst old.map made old.waits.wait (views_in old) burst handed told more (views_in new)

  -- what bursts spell that come one after another
  abbrev pub SpellsAll : CapturedFlows C → List CapturedBurst → CapturedFlows C → TableSetup → List Act → List Act → Type 0
  SpellsAll old bursts new made handed more =
      SpellsBursts old.map made old.waits.wait (views_in old) handed bursts more (views_in new)

  -- and what the end spells
  abbrev pub EndsWaitingOfAll : CapturedFlows C → CapturedFlows C → TableSetup → List Act → List Act → Type 0
  EndsWaitingOfAll old new made handed more =
      EndsAll made old.waits.wait (views_in old) handed (length old.flows.items) more (views_in new)
