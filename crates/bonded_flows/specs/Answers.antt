-- What an answer of the joiner says.
use Rattle.std.specs.Prelude.{Bool, true, false}
use Rattle.docsis_wire.specs.declared.segment.Segment.{Segment}
use Rattle.reorder.specs.declared.verdict.Declared.TheVariants.{NextIsHere, NothingHeld, Lost}
use Rattle.reorder.specs.declared.verdict.Verdict.{Verdict}
use Rattle.reorder.specs.declared.verdict.Verdict.TheVariants.{Late, Beyond, Repeat, Kept}
use Rattle.flow_core.specs.declared.event.Applied.{Applied}
use Rattle.flow_core.specs.declared.event.Applied.TheVariants.{Arrival, Decision, DecisionTo, DecisionSkip}
use Rattle.bonded_flows.specs.declared.told.SegmentVerdict.{SegmentVerdict}
use Rattle.bonded_flows.specs.declared.told.SegmentVerdict.TheVariants as verdict

-- the verdict without the segment that it hands back
abbrev pub verdict_of : Verdict Segment → SegmentVerdict
verdict_of (Late back) = verdict.Late
verdict_of (Beyond back) = verdict.Beyond
verdict_of (Repeat back) = verdict.Repeat
verdict_of Kept = verdict.Kept

-- whether the answer to a decision is that a segment is lost by it
abbrev pub says_any_lost : Applied → Bool
says_any_lost (Arrival verdict) = false
says_any_lost (Decision (Lost number)) = true
says_any_lost (Decision NothingHeld) = false
says_any_lost (Decision NextIsHere) = false
says_any_lost (DecisionTo any) = any
says_any_lost (DecisionSkip any) = any
