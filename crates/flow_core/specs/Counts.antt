-- What is counted of a flow.
use Rattle.std.specs.Prelude.{◌≡◌, ℕ, ◌+◌, Bool, true, false, Option, Some, None, List, length, sum_by, count_by, is_some, not}
use Rattle.std.specs.List.{concat}
use Rattle.docsis_wire.specs.declared.segment.Segment.{Segment}
use Rattle.flow_records.specs.Counted.{counted}
use Rattle.reorder.specs.declared.verdict.Verdict.TheVariants.{Late, Beyond, Repeat, Kept}
use Rattle.flow_core.specs.declared.counts.FlowCounts.{FlowCounts}
use Rattle.flow_core.specs.declared.event.Applied.{Applied}
use Rattle.flow_core.specs.declared.event.Applied.TheVariants.{Arrival}

-- the answer is that a segment was kept; that it was late; that its index was kept already; that it
-- lies beyond the window
abbrev pub says_kept : Applied → Bool
says_kept (Arrival Kept) = true
says_kept _ = false

abbrev pub says_late : Applied → Bool
says_late (Arrival (Late _)) = true
says_late _ = false

abbrev pub says_repeat : Applied → Bool
says_repeat (Arrival (Repeat _)) = true
says_repeat _ = false

abbrev pub says_beyond : Applied → Bool
says_beyond (Arrival (Beyond _)) = true
says_beyond _ = false

-- how many bytes of payload a kept segment has; a lost one has none
abbrev pub payload_bytes : Option Segment → ℕ
payload_bytes (Some segment) = length segment.payload
payload_bytes None = 0

-- nothing was counted yet
abbrev pub no_counts : FlowCounts
no_counts = record { kept = 0; late = 0; repeat = 0; beyond = 0; lost = 0; frames = 0; skipped = 0 }

-- The counts of a flow whose events had these answers and whose settled segments are these, which
-- gave these frames and left these bytes unfinished. The bytes of the settled segments were given
-- in frames, are unfinished, or were skipped.
pub record AreCounts (answers : List Applied) (settled : List (Option Segment)) (given : List (List ℕ)) (unfinished : List ℕ) (counts : FlowCounts) : Type 0 where
  pub kept : counts.kept ≡ counted (count_by says_kept answers)
  pub late : counts.late ≡ counted (count_by says_late answers)
  pub repeat : counts.repeat ≡ counted (count_by says_repeat answers)
  pub beyond : counts.beyond ≡ counted (count_by says_beyond answers)
  pub lost : counts.lost ≡ counted (count_by (λ fate. not (is_some fate)) settled)
  pub frames : counts.frames ≡ counted (length given)
  pub skipped_bytes : ℕ
  pub balance : skipped_bytes + length (concat given) + length unfinished ≡ sum_by payload_bytes settled
  pub skipped : counts.skipped ≡ counted skipped_bytes
