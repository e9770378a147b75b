-- What comes to a flow, and what becomes of it, apart from what segments carry behind their header.
use Rattle.std.proofs.Common.{◌≡◌, ℕ, Option, Some, None}
use Rattle.std.specs.FinMap as map
use Rattle.docsis_wire.specs.declared.header.SegmentHeader.{SegmentHeader}
use Rattle.docsis_wire.specs.declared.segment.Segment.{Segment}
use Rattle.reorder.specs.declared.verdict.Verdict.{Verdict}
use Rattle.flow_core.specs.declared.event.Applied.{Applied}
use Rattle.flow_core.specs.declared.event.Applied.TheVariants.{Arrival, Decision, DecisionTo, DecisionSkip}
use Rattle.flow_core.specs.Fates.{Fates}
use Rattle.flow_core.specs.Events.{FlowEvent, arrives, gap, gap_to, skip_to}
use Rattle.loss_rule.specs.Rule.{Coming, on_channel, handed_in}
use Rattle.bonded_flows.specs.Answers.{verdict_of}
use Rattle.bonded_flows.specs.Parts.{FlowInput, comes, begins_anew}

-- two that come alike: segments of one header on one channel, or the same decision
abbrev pub ComesAlike : Coming → Coming → Type 0
ComesAlike (on_channel channel segment) other = (its : Segment) × (other ≡ on_channel channel its) × (its.head ≡ segment.head)
ComesAlike (handed_in event) other = other ≡ handed_in event

-- what is handed in of a flow alike: what comes alike, or that it begins anew at the same number
abbrev pub InputsAlike : FlowInput → FlowInput → Type 0
InputsAlike (comes coming) other = (its : Coming) × (other ≡ comes its) × ComesAlike coming its
InputsAlike (begins_anew first) other = other ≡ begins_anew first

-- alike events: segments of one header arrive, or it is the same decision
abbrev pub EventsAlike : FlowEvent → FlowEvent → Type 0
EventsAlike (arrives segment) other = (its : Segment) × (other ≡ arrives its) × (its.head ≡ segment.head)
EventsAlike gap other = other ≡ gap
EventsAlike (gap_to number) other = other ≡ gap_to number
EventsAlike (skip_to number) other = other ≡ skip_to number

-- alike answers: the same, but for the segment that a verdict hands back
abbrev pub AnswersAlike : Applied → Applied → Type 0
AnswersAlike (Arrival verdict) other = (its : Verdict Segment) × (other ≡ Arrival its) × (verdict_of its ≡ verdict_of verdict)
AnswersAlike (Decision declared) other = other ≡ Decision declared
AnswersAlike (DecisionTo any) other = other ≡ DecisionTo any
AnswersAlike (DecisionSkip any) other = other ≡ DecisionSkip any

-- what became of an index, and the header of its segment if that was kept
abbrev pub heads_of : Option (Option Segment) → Option (Option SegmentHeader)
heads_of None = None
heads_of (Some None) = Some None
heads_of (Some (Some segment)) = Some (Some segment.head)

-- alike fates: the same became of each index, and what was kept of it has one header
abbrev pub FatesAlike : Fates → Fates → Type 0
FatesAlike fates others = (i : ℕ) → heads_of (map.get others i) ≡ heads_of (map.get fates i)
