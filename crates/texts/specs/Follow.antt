-- What is printed of a trace that is followed, as its lines are read.
use Rattle.std.specs.Prelude.{◌≡◌, ℕ, Bool, if◌then◌else◌, Option, Some, None, List, [], ◌∷◌, ◌++◌, codes, map, flat_map, slice_get}
use Rattle.consumer.specs.declared.given.Given.{Given}
use Rattle.consumer.specs.declared.given.Given.TheVariants.{Frame, Asked}
use Rattle.flow_records.specs.declared.record.FlowRecord.{FlowRecord}
use Rattle.flow_core.specs.declared.counts.FlowCounts.{FlowCounts}
use Rattle.flow_selection.specs.declared.selection.Selection.{Selection}
use Rattle.flow_selection.specs.declared.selection.Selection.TheVariants.{All}
use Rattle.flow_selection.specs.Selection.{is_selected}
use Rattle.flow_selection.specs.Lines.{is_left}
use Rattle.loss_rule.specs.declared.rule.LossRule.{LossRule}
use Rattle.receiver.specs.declared.closing.Closed.{Closed}
use Rattle.receiver.specs.declared.setup.Setup.{Setup}
use Rattle.receiver.specs.declared.tally.LaneTally.{LaneTally}
use Rattle.receiver.specs.declared.width.Width.{Width}
use Rattle.receiver.specs.HandedIn.{HandedIn, made_of}
use Rattle.receiver.specs.Received.{IsReceived}
use Rattle.text_lines.specs.Capacities.{default_capacity}
use Rattle.text_lines.specs.Format.{IsRead}
use Rattle.text_lines.specs.Lines.{lines_of, line_feed}
use Rattle.texts.specs.declared.follow.settings.FollowSettings.{FollowSettings}
use Rattle.texts.specs.declared.follow.happening.Happening.{Happening}
use Rattle.texts.specs.declared.follow.happening.Happening.TheVariants.{Gave, Took, Decided, Stands}
use Rattle.texts.specs.AnyHeader.{any_header}
use Rattle.texts.specs.Happening.{given_line, happening_lines}
use Rattle.texts.specs.Happened.{AreHandedIn, HasHappened, HappenedBy, HappenedAt, happening_of, AreNumbered, flow_admitted}
use Rattle.texts.specs.Replay.{IsSetupOf}
use Rattle.text_lines.specs.Putting.{spaced, numbered_texts}
use Rattle.texts.specs.Report.{named, flow_line}
use Rattle.texts.specs.Trace.Line.{shape_of}
use Rattle.texts.specs.Trace.Place.{Said, nothing_said_in, trace_format}

-- ---- the lines

-- the line of a flow with this index at the end, which has this record, if it has one
abbrev pub line_with : Option FlowRecord → ℕ → FlowCounts → List ℕ
line_with None k counts = []
line_with (Some flow_record) k counts = flow_line k flow_record.sfid counts

abbrev pub closed_flow : List FlowRecord → ℕ → FlowCounts → List ℕ
closed_flow records k counts = line_with (slice_get records k) k counts

-- so where the flow is selected
abbrev pub closed_told : Selection → List FlowRecord → ℕ → FlowCounts → List ℕ
closed_told selected records k counts = if is_selected selected k then closed_flow records k counts else []

-- `lane <channel> admitted <n> refusals <n>`
abbrev pub tally_line : ℕ → LaneTally → List ℕ
tally_line channel tally =
    codes "lane" ++ spaced channel ++ named (codes "admitted") tally.admitted ++ named (codes "refusals") tally.refused ++ line_feed ∷ []

-- the lines of what was counted of each flow that is selected, and of each channel
abbrev pub closed_lines : Selection → Setup → Closed → List ℕ
closed_lines selected setup closed = numbered_texts (closed_told selected setup.flows.items) closed.flows.items ++ numbered_texts tally_line closed.lanes.items

-- the flow of what is given, and of what happens, if it is of one: a request is of a channel, and
-- so is an input that came to no flow
abbrev pub flow_of_given : Given → Option ℕ
flow_of_given (Frame flow frame) = Some flow
flow_of_given (Asked request) = None

abbrev pub flow_of_happening : Happening → Option ℕ
flow_of_happening (Gave given) = flow_of_given given
flow_of_happening (Took name reply) = flow_admitted reply
flow_of_happening (Decided flow reply) = Some flow
flow_of_happening (Stands flow expected held) = Some flow

-- the line of what is given, where it is of no flow or of one that is selected
abbrev pub given_told : Selection → Given → List ℕ
given_told selected given = if is_left selected (flow_of_given given) then given_line given else []

-- so the lines of what happened by the line with this number, with events or without
abbrev pub lines_told : FollowSettings → ℕ → Happening → List ℕ
lines_told settings line one = if is_left settings.selected (flow_of_happening one) then happening_lines settings.events line one else []

abbrev pub told_lines : FollowSettings → HappenedAt → List ℕ
told_lines settings one = lines_told settings one.line one.happening

-- ---- the text

-- all flows are selected
abbrev pub of_all_flows : Bool → FollowSettings
of_all_flows events = record { events = events; selected = All }

-- **The text of the first lines of a trace that is followed**: the lines of all that happened by
-- them, in order, but for what is of flows that aren't selected.
pub record IsFollowedSoFar (rule : LossRule) (width : Width) (settings : FollowSettings) (lines : List (List ℕ)) (text : List ℕ) : Type 0 where
  pub told : List HappenedAt
  pub happened : HappenedBy rule width lines (map happening_of told)
  pub numbered : AreNumbered rule width lines told
  pub printed : text ≡ flat_map (told_lines settings) told

-- **The text of a trace that is followed**: the lines of all that happens by its lines, in order,
-- at a receiver of this width by this rule; then those of what it gives as it is closed, and of
-- what was counted; but for what is of flows that aren't selected.
pub record IsFollowed (rule : LossRule) (width : Width) (settings : FollowSettings) (input text : List ℕ) : Type 0 where
  pub said : Said
  pub read : IsRead trace_format (nothing_said_in (shape_of width default_capacity)) (lines_of input) said
  pub setup : Setup
  pub is_setup : IsSetupOf said setup
  pub handed : List HandedIn
  pub entries : AreHandedIn width.channels said.entries handed
  pub given : List Given
  pub told : List HappenedAt
  pub happened : HasHappened (made_of rule width.channels setup) handed given (map happening_of told)
  pub numbered : AreNumbered rule width (lines_of input) told
  pub rest : List Given
  pub closed : Closed
  pub received : IsReceived any_header (made_of rule width.channels setup) handed (given ++ rest) closed
  pub printed : text ≡ flat_map (told_lines settings) told ++ flat_map (given_told settings.selected) rest ++ closed_lines settings.selected setup closed
