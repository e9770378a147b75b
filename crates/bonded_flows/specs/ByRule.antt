-- What is told and given of a flow that decides by a rule which segments are lost: by the
-- definitions alone, of what came to it.
use Rattle.std.specs.Prelude.{◌≡◌, ℕ, ◌<◌, nat_lt, Bool, true, false, Option, Some, None, List, [], ◌∷◌, ◌++◌, replicate}
use Rattle.docsis_wire.specs.Limits.{sequence_modulus}
use Rattle.docsis_wire.specs.declared.segment.Segment.{Segment}
use Rattle.reorder.specs.declared.verdict.Verdict.{Verdict}
use Rattle.flow_core.specs.declared.counts.FlowCounts.{FlowCounts}
use Rattle.flow_core.specs.declared.event.Applied.{Applied}
use Rattle.flow_core.specs.declared.event.Applied.TheVariants.{Arrival}
use Rattle.flow_core.specs.Fates.{Fates}
use Rattle.flow_core.specs.Events.{FlowEvent, arrives, gap, gap_to, skip_to, IsAfter}
use Rattle.flow_core.specs.Outcome.{IsFlowOutcome}
use Rattle.flow_core.specs.Closing.{IsClosed}
use Rattle.loss_rule.specs.Rule.{Coming, on_channel, handed_in, Lasts, AreRuled}
use Rattle.bonded_flows.specs.declared.decision.FlowDecision.{FlowDecision}
use Rattle.bonded_flows.specs.declared.decision.FlowDecision.TheVariants.{Gap, GapTo, SkipTo}
use Rattle.bonded_flows.specs.declared.told.SegmentVerdict.{SegmentVerdict}
use Rattle.bonded_flows.specs.declared.told.Told.{Told}
use Rattle.bonded_flows.specs.FlowSetup.{FlowSetup, ruled_flow}
use Rattle.bonded_flows.specs.Answers.{verdict_of, says_any_lost}

-- what a decision is to the flow
abbrev pub decision_event : FlowDecision → FlowEvent
decision_event Gap = gap
decision_event (GapTo number) = gap_to number
decision_event (SkipTo number) = skip_to number

-- its number is a sequence number
abbrev pub IsTakable : FlowDecision → Type 0
IsTakable Gap = Unit {0}
IsTakable (GapTo number) = number < sequence_modulus
IsTakable (SkipTo number) = number < sequence_modulus

-- the same as a truth value
abbrev pub is_in_range : FlowDecision → Bool
is_in_range Gap = true
is_in_range (GapTo number) = nat_lt number sequence_modulus
is_in_range (SkipTo number) = nat_lt number sequence_modulus

-- it is a skip
abbrev pub skips_any : FlowDecision → Bool
skips_any Gap = false
skips_any (GapTo number) = false
skips_any (SkipTo number) = true

-- The answer to the last of the events is this verdict on a segment.
abbrev pub EndInVerdict : FlowSetup → List FlowEvent → SegmentVerdict → Type 0
EndInVerdict setup events verdict =
    (answers : List Applied) × (last : Verdict Segment) × (fates : Fates)
    × IsAfter setup.flow_record.first setup.flow_record.window events (answers ++ Arrival last ∷ []) fates × (verdict_of last ≡ verdict)

-- The number to which the last of these skips goes, or none where there is none.
abbrev pub IsLastSkip : Option ℕ → List FlowEvent → Type 0
IsLastSkip None skips = skips ≡ []
IsLastSkip (Some number) skips = (before : List FlowEvent) × (skips ≡ before ++ skip_to number ∷ [])

-- What is told of a segment that comes on a channel after all this came: up to which number the
-- rule skips before it, and the verdict on it.
pub record IsTold (setup : FlowSetup) (comings : List Coming) (channel : ℕ) (segment : Segment) (told : Told) : Type 0 where
  pub events : List FlowEvent
  pub lasts : Lasts
  pub fates : Fates
  pub before : AreRuled setup.rule (ruled_flow setup) comings events lasts fates
  pub skips : List FlowEvent
  pub noted : Lasts
  pub after : Fates
  pub ruled : AreRuled setup.rule (ruled_flow setup) (comings ++ on_channel channel segment ∷ []) (events ++ (skips ++ arrives segment ∷ [])) noted after
  pub skipped : IsLastSkip told.skipped_to skips
  pub verdict : EndInVerdict setup (events ++ (skips ++ arrives segment ∷ [])) told.verdict

-- What is told of a decision handed in after all this came: whether a segment is lost by it.
pub record IsToldLost (setup : FlowSetup) (comings : List Coming) (event : FlowEvent) (lost : Bool) : Type 0 where
  pub events : List FlowEvent
  pub lasts : Lasts
  pub fates : Fates
  pub ruled : AreRuled setup.rule (ruled_flow setup) (comings ++ handed_in event ∷ []) events lasts fates
  pub answers : List Applied
  pub answer : Applied
  pub answered : IsAfter setup.flow_record.first setup.flow_record.window events (answers ++ answer ∷ []) fates
  pub says : says_any_lost answer ≡ lost

-- What a flow has given to which all this came, as long as it isn't closed: the frames and counts
-- of the events that by the rule come of it.
pub record HasGivenByRule (check : List ℕ → Bool) (setup : FlowSetup) (comings : List Coming) (frames : List (List ℕ)) (counts : FlowCounts) : Type 0 where
  pub events : List FlowEvent
  pub lasts : Lasts
  pub fates : Fates
  pub ruled : AreRuled setup.rule (ruled_flow setup) comings events lasts fates
  pub outcome : IsFlowOutcome check setup.flow_record events frames counts

-- **What a flow gave that is closed** and to which all this came: the frames and counts of the
-- events that by the rule come of it, and then of its close, as many gaps as still change anything.
pub record GaveByRule (check : List ℕ → Bool) (setup : FlowSetup) (comings : List Coming) (frames : List (List ℕ)) (counts : FlowCounts) : Type 0 where
  pub events : List FlowEvent
  pub lasts : Lasts
  pub fates : Fates
  pub ruled : AreRuled setup.rule (ruled_flow setup) comings events lasts fates
  pub n : ℕ
  pub outcome : IsFlowOutcome check setup.flow_record (events ++ replicate n gap) frames counts
  pub closed : IsClosed outcome.fates
