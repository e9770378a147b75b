-- What was counted has no number with a fraction.
use Rattle.std.proofs.Common.{◌≡◌, ℕ, Option, Some, None, List, [], ◌∷◌, refl}
use Rattle.std.specs.Prelude.{map, false, slice_get}
use Rattle.std.specs.List.{enumerate_from}
use Rattle.serde_json.specs.Data.{Data}
use Rattle.serde_json.specs.View.{items_of}
use Rattle.serde_json.specs.Written.{has_float, items_have_float}
use Rattle.capture_summary.specs.declared.flow_summary.FlowSummary.{FlowSummary}
use Rattle.capture_summary.specs.declared.channel_summary.ChannelSummary.{ChannelSummary}
use Rattle.capture_summary.specs.declared.summary.CaptureSummary.{CaptureSummary}
use Rattle.capture_summary.specs.Counting.{selected_flows}
use Rattle.burst_fates.specs.declared.missing_reason.MissingReason.{MissingReason}
use Rattle.burst_fates.specs.Words.{burst_in}
use Rattle.frame_comparison.specs.declared.compared_counts.ComparedCounts.{ComparedCounts}
use Rattle.frame_comparison.specs.Frames.{ShownFrame}
use Rattle.frame_comparison.specs.Seen.{ComparisonSeen}
use Rattle.capture_json.specs.Counted.{flow_data, channel_data, summary_data}
use Rattle.capture_json.specs.Compared.{sfid_data, compared_data, only_data, burst_data, reason_data, missing_data, compared_flows, compared_or_null}

no_float-flows : (flows : List FlowSummary) → items_have_float (items_of (map flow_data flows)) ≡ false
no_float-flows [] = refl
no_float-flows (flow ∷ flows) = no_float-flows flows

no_float-channels : (channels : List ChannelSummary) → items_have_float (items_of (map channel_data channels)) ≡ false
no_float-channels [] = refl
no_float-channels (one ∷ channels) = no_float-channels channels

no_float-sfid : (flow : Option FlowSummary) → has_float (sfid_data flow) ≡ false
no_float-sfid (Some flow) = refl
no_float-sfid None = refl

no_float-burst : (burst : Option ℕ) → has_float (burst_data burst) ≡ false
no_float-burst (Some id) = refl
no_float-burst None = refl

no_float-reason : (reason : Option MissingReason) → has_float (reason_data reason) ≡ false
no_float-reason (Some reason) = rw (no_float-burst (burst_in reason)) refl
no_float-reason None = refl

module _ (flows : List FlowSummary) where
  no_float-compared : (all : List (ℕ × ComparedCounts)) → items_have_float (items_of (map (compared_data flows) all)) ≡ false
  no_float-compared [] = refl
  no_float-compared (one ∷ all) = rw (no_float-sfid (slice_get flows one.0)) (no_float-compared all)

  no_float-only : (frames : List ShownFrame) → items_have_float (items_of (map (only_data flows) frames)) ≡ false
  no_float-only [] = refl
  no_float-only (frame ∷ frames) = rw (no_float-sfid (slice_get flows frame.flow)) (no_float-only frames)

  no_float-missing : (reasons : List MissingReason) (frames : List (ℕ × ShownFrame)) → items_have_float (items_of (map (missing_data flows reasons) frames)) ≡ false
  no_float-missing reasons [] = refl
  no_float-missing reasons (one ∷ frames) =
      rw (no_float-sfid (slice_get flows one.1.flow), no_float-reason (slice_get reasons one.0)) (no_float-missing reasons frames)

  pub no_float-comparison : (reasons : List MissingReason) (strangers : ℕ) (seen : Option ComparisonSeen) → has_float (compared_or_null flows reasons strangers seen) ≡ false
  no_float-comparison reasons strangers None = refl
  no_float-comparison reasons strangers (Some seen) =
      rw (no_float-compared (compared_flows seen.counts), no_float-missing reasons (enumerate_from 0 seen.analyser.only), no_float-only seen.here.only) refl

pub no_float : (compared : Data) (summary : CaptureSummary) → has_float compared ≡ false → has_float (summary_data compared summary) ≡ false
no_float compared summary whole = rw (no_float-channels summary.channels.items, whole, no_float-flows (selected_flows summary.flows.items)) refl
