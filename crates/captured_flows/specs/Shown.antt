-- Which steps are seen where some flows are selected.
use Rattle.std.specs.Prelude.{◌≡◌, ℕ, Bool, true, List, [], ◌∷◌, filter, if◌then◌else◌}
use Rattle.flow_core.specs.declared.counts.FlowCounts.{FlowCounts}
use Rattle.flow_selection.specs.declared.selection.Selection.{Selection}
use Rattle.flow_selection.specs.Selection.{is_selected}
use Rattle.answers.specs.Beside.{is_told_if_given}
use Rattle.captured_flows.specs.Steps.{CaptureStep, handed_in, gave, replied, began_anew}

-- What is given is seen of the selected flows, and of none; that a flow begins anew, with its
-- counts, is seen of the selected ones; and every burst is seen, with the reply to it.
abbrev pub is_seen : Selection → CaptureStep → Bool
is_seen selected (handed_in flow burst) = true
is_seen selected (gave given) = is_told_if_given selected given
is_seen selected (replied flow burst_id reply) = true
is_seen selected (began_anew flow counts) = is_selected selected flow

-- **These are seen of those steps**: just those that are seen where these flows are selected, in the
-- same order.
abbrev pub AreSeenOf : Selection → List CaptureStep → List CaptureStep → Type 0
AreSeenOf selected steps seen = seen ≡ filter (is_seen selected) steps

-- that a flow begins anew, with its counts, if it is selected
abbrev pub begun_if : Selection → ℕ → FlowCounts → List CaptureStep
begun_if selected flow counts = if is_selected selected flow then began_anew flow counts ∷ [] else []
