-- How frames compare, as JSON. The members of an object are in the order of their names.
use Rattle.std.specs.Prelude.{ℕ, ◌/◌, ◌%◌, Option, Some, None, List, [], ◌∷◌, map, flat_map, codes, if◌then◌else◌, slice_get}
use Rattle.std.specs.List.{enumerate_from}
use Rattle.hex.specs.Hex.{encode_lower}
use Rattle.serde_json.specs.Data.{Data, object, array, number, string, boolean, null, unsigned, member, no_members}
use Rattle.serde_json.specs.View.{items_of}
use Rattle.capture_summary.specs.declared.flow_summary.FlowSummary.{FlowSummary}
use Rattle.burst_fates.specs.declared.missing_reason.MissingReason.{MissingReason}
use Rattle.burst_fates.specs.Words.{reason_word, burst_in}
use Rattle.frame_comparison.specs.declared.compared_counts.ComparedCounts.{ComparedCounts}
use Rattle.frame_comparison.specs.Frames.{ShownFrame}
use Rattle.frame_comparison.specs.Seen.{ComparisonSeen, is_quiet}
use Rattle.text_lines.specs.Putting.{second}
use Rattle.capture_json.specs.Counted.{numbers_then}

-- the service flow identifier of a flow, if there is such a flow
abbrev pub sfid_data : Option FlowSummary → Data
sfid_data (Some flow) = number (unsigned flow.sfid)
sfid_data None = null

-- the flows of which something came, by their places
abbrev pub told_if : ℕ × ComparedCounts → List (ℕ × ComparedCounts)
told_if one = if is_quiet one.1 then [] else one ∷ []

abbrev pub compared_flows : List ComparedCounts → List (ℕ × ComparedCounts)
compared_flows counts = flat_map told_if (enumerate_from 0 counts)

-- the burst that a reason names, and why we haven't a frame, if that is known
abbrev pub burst_data : Option ℕ → Data
burst_data (Some id) = number (unsigned id)
burst_data None = null

abbrev pub reason_data : Option MissingReason → Data
reason_data (Some reason) = object (member (codes "burst") (burst_data (burst_in reason)) (member (codes "reason") (string (reason_word reason)) no_members))
reason_data None = null

module _ (flows : List FlowSummary) where
  -- a flow, and what was counted of it
  abbrev pub compared_data : ℕ × ComparedCounts → Data
  compared_data one = object (numbers_then
      ((codes "both", one.1.both) ∷ (codes "flow", one.0) ∷ (codes "only_analyser", one.1.only_analyser) ∷ (codes "only_here", one.1.only_here) ∷ [])
      (member (codes "sfid") (sfid_data (slice_get flows one.0)) no_members))

  -- a frame that only one side has
  abbrev pub only_data : ShownFrame → Data
  only_data frame = object (numbers_then ((codes "bytes", frame.byte_count) ∷ [])
      (member (codes "first") (string (encode_lower frame.first))
      (numbers_then ((codes "flow", frame.flow) ∷ (codes "nanoseconds", frame.time % second) ∷ (codes "seconds", frame.time / second) ∷ [])
      (member (codes "sfid") (sfid_data (slice_get flows frame.flow)) no_members))))

  -- one that only the analyser has, with the reason at its place
  abbrev pub missing_data : List MissingReason → ℕ × ShownFrame → Data
  missing_data reasons one = object (numbers_then ((codes "bytes", one.1.byte_count) ∷ [])
      (member (codes "first") (string (encode_lower one.1.first))
      (numbers_then ((codes "flow", one.1.flow) ∷ (codes "nanoseconds", one.1.time % second) ∷ (codes "seconds", one.1.time / second) ∷ [])
      (member (codes "sfid") (sfid_data (slice_get flows one.1.flow)) (member (codes "why") (reason_data (slice_get reasons one.0)) no_members)))))

  -- **How frames compare**, and how many of the analyser's are of no flow
  abbrev pub comparison_data : List MissingReason → ℕ → ComparisonSeen → Data
  comparison_data reasons strangers seen = object
      (member (codes "flows") (array (items_of (map compared_data (compared_flows seen.counts))))
      (member (codes "only_analyser") (array (items_of (map (missing_data reasons) (enumerate_from 0 seen.analyser.only))))
      (member (codes "only_here") (array (items_of (map only_data seen.here.only)))
      (numbers_then ((codes "strangers", strangers) ∷ [])
      (member (codes "whole") (boolean seen.is_whole) no_members)))))

  -- nothing where they aren't compared
  abbrev pub compared_or_null : List MissingReason → ℕ → Option ComparisonSeen → Data
  compared_or_null reasons strangers (Some seen) = comparison_data reasons strangers seen
  compared_or_null reasons strangers None = null
