-- What is put at the end of a trace that was followed is of the whole.
use Rattle.std.proofs.Common.{◌≡◌, ℕ, Bool, true, false, List, [], ◌++◌, map, filter, refl, sym, ap, subst, ◌∙◌}
use Rattle.std.specs.Prelude.{if◌then◌else◌, flat_map}
use Rattle.std.proofs.lemmas.Option.{same_Some}
use Rattle.answers.specs.Beside.{AreCountedAlike}
use Rattle.answers.specs.ToldAlike.{is_told_for}
use Rattle.answers.proofs.PartsOfReports.{numbered_same}
use Rattle.flow_core.specs.declared.counts.FlowCounts.{FlowCounts}
use Rattle.flow_records.specs.declared.record.FlowRecord.{FlowRecord}
use Rattle.flow_selection.specs.declared.selection.Selection.{Selection}
use Rattle.flow_selection.specs.Selection.{is_selected}
use Rattle.loss_rule.specs.declared.rule.LossRule.{LossRule}
use Rattle.receiver.specs.declared.closing.Closed.{Closed}
use Rattle.receiver.specs.declared.setup.Setup.{Setup}
use Rattle.receiver.specs.declared.tally.LaneTally.{LaneTally}
use Rattle.receiver.specs.declared.width.Width.{Width}
use Rattle.receiver.specs.HandedIn.{made_of}
use Rattle.text_lines.specs.Putting.{numbered_texts}
use Rattle.texts.specs.declared.follow.happening.Happening.{Happening}
use Rattle.texts.specs.declared.follow.happening.Happening.TheVariants.{Gave}
use Rattle.texts.specs.declared.follow.settings.FollowSettings.{FollowSettings}
use Rattle.texts.specs.Follow.{closed_flow, closed_told, closed_lines, tally_line, lines_told}
use Rattle.texts.specs.Replay.{IsSetupOf}
use Rattle.texts.specs.Trace.Place.{Said}
use Rattle.followed_traces.specs.declared.follow_input.Followed.{Followed}
use Rattle.followed_traces.specs.End.{IsFollowedTo}
use Rattle.followed_traces.specs.Inside.Watched.{Watched, EndsWhole}
use Rattle.followed_traces.proofs.FollowedTrace.{same_lines}

module _ (selected : Selection) (records : List FlowRecord) where
  -- the line of a flow is the same where its counts are, if it is selected
  line_same : (k : ℕ) (counts other : FlowCounts) → (is_selected selected k ≡ true → counts ≡ other) → closed_told selected records k counts ≡ closed_told selected records k other
  line_same k counts other same = by_flag (is_selected selected k) refl where
    by_flag : (b : Bool) → is_selected selected k ≡ b → (if b then closed_flow records k counts else []) ≡ (if b then closed_flow records k other else [])
    by_flag true is = ap (closed_flow records k) (same is)
    by_flag false is = refl

-- what was counted alike has the same lines
counted_lines : (selected : Selection) (setup : Setup) (closed other : Closed) → AreCountedAlike selected closed other
    → closed_lines selected setup closed ≡ closed_lines selected setup other
counted_lines selected setup closed other alike =
    let told = closed_told selected setup.flows.items in
    let flows = numbered_same told closed.flows.items other.flows.items (sym alike.count)
    (λ k counts also there here. line_same selected setup.flows.items k counts also
    (λ chosen. same_Some counts also (sym there ∙ sym (alike.flows k chosen) ∙ here))) in
    ap (λ (front : List ℕ). front ++ numbered_texts tally_line closed.lanes.items) flows
    ∙ ap (λ (lanes : List LaneTally). numbered_texts told other.flows.items ++ numbered_texts tally_line lanes) (sym alike.lanes)

-- what is left to be put is of the whole
pub followed_to : (rule : LossRule) (width : Width) (said : Said) (state : Watched) (end : Followed) → end.settings ≡ state.settings → IsSetupOf said end.setup
    → (pending : List Happening) → end.happened.items ≡ pending
    → EndsWhole state (made_of rule width.channels end.setup) width.channels said.entries pending end.closed → IsFollowedTo rule width said state.told end
followed_to rule width said state end settings setup pending is ends = record {
  setup = setup;
  handed = ends.handed;
  entries = ends.entries_are;
  given = ends.given;
  last = ends.last;
  happened = ends.happened;
  rest = ends.rest;
  counted = ends.counted;
  received = ends.received;
  same =
      subst (λ (s : FollowSettings). filter (is_told_for s.selected) (ends.last ++ map Gave ends.rest) ≡ filter (is_told_for s.selected) end.happened.items) (sym settings)
      (ends.same ∙ ap (filter (is_told_for state.settings.selected)) (sym is));
  alike = subst (λ (s : FollowSettings). AreCountedAlike s.selected end.closed ends.counted) (sym settings) ends.alike;
}

-- so it has the lines of that
module _ (rule : LossRule) (width : Width) (said : Said) (told : List Happening) (end : Followed) (to : IsFollowedTo rule width said told end) where
  pub left_lines : (line : ℕ) → flat_map (lines_told end.settings line) end.happened.items ≡ flat_map (lines_told end.settings line) (to.last ++ map Gave to.rest)
  left_lines line = same_lines end.settings line end.happened.items (to.last ++ map Gave to.rest) (sym to.same)

  pub left_counts : closed_lines end.settings.selected end.setup end.closed ≡ closed_lines end.settings.selected end.setup to.counted
  left_counts = counted_lines end.settings.selected end.setup end.closed to.counted to.alike
