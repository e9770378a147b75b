-- What is given for inputs that stand in is a part of the whole text: that of the flows that are
-- selected.
use Rattle.std.proofs.Common.{◌≡◌, ℕ, ◌^◌, ◌<◌, Bool, Option, Some, None, List, [], ◌∷◌, length, map, is_some, lit<, refl, ap, sym, ◌∙◌, arith}
use Rattle.std.specs.List.{AllZip}
use Rattle.std.proofs.lemmas.List.{length-map}
use Rattle.flow_records.specs.declared.decision.Decision.{Decision}
use Rattle.flow_records.specs.Decisions.{names_a_flow}
use Rattle.flow_selection.specs.declared.selection.Selection.{Selection}
use Rattle.flow_selection.specs.Selection.{is_selected}
use Rattle.lane.specs.declared.admitted.Admitted.{Admitted}
use Rattle.lane.specs.Limits.{channel_limit, senders}
use Rattle.lane.specs.Inputs.{AnsweredInput}
use Rattle.lane.specs.Report.{admitted_by}
use Rattle.loss_rule.specs.declared.rule.LossRule.{LossRule}
use Rattle.receiver.specs.declared.outcome.Outcome.{Outcome}
use Rattle.receiver.specs.declared.setup.Setup.{Setup}
use Rattle.receiver.specs.Entries.{tag_of, came_on, incoming_in}
use Rattle.receiver.specs.Faults.{CanReceive}
use Rattle.receiver.specs.Items.{Incoming, are_items}
use Rattle.receiver.specs.AdmittedOrder.{IsAdmittedOrder}
use Rattle.receiver.specs.Ruled.{IsOutcomeBy}
use Rattle.receiver.proofs.MergedLists.{one-lane, merge-same, admitted-lawful}
use Rattle.receiver.proofs.Senders.{five}
use Rattle.text_lines.specs.Capacities.{default_capacity}
use Rattle.text_lines.specs.Lines.{lines_of}
use Rattle.text_lines.specs.Format.{IsRead}
use Rattle.texts.specs.AnyHeader.{any_header}
use Rattle.texts.specs.Report.{report_text}
use Rattle.texts.specs.Replay.{IsSetupOf}
use Rattle.texts.specs.Selected.{report_of, IsReplayedOf}
use Rattle.texts.specs.Trace.Place.{Said, nothing_said, trace_format}
use Rattle.texts.proofs.OneReplay.{given_receives}
use Rattle.answers.specs.Room.{HasRoom}
use Rattle.receiver.specs.Elsewhere.{DiffersElsewhere}
use Rattle.answers.proofs.Everywhere.{few_given}
use Rattle.answers.proofs.SomeIntake.{some_intake, few_kept}
use Rattle.answers.proofs.SomeReplay.{some_replay}
use Rattle.answers.proofs.SomeText.{replayed_of}
use Rattle.answers.proofs.ReadTraces.{read-bytes, read-few}
use Rattle.answers.specs.Beside.{AreAdmittedFor, AnswersInPlaceOf}
use Rattle.answers.proofs.OtherOutcomes.{other_lanes, outcomes-agree}
use Rattle.answers.proofs.PartsOfReports.{part_same}

-- as much is admitted of each
admits_same : (selected : ℕ → Bool) (one other : Option Admitted) → AreAdmittedFor selected one other → is_some other ≡ is_some one
admits_same selected None None is = refl
admits_same selected None (Some other) is = absurd is
admits_same selected (Some one) None is = absurd is
admits_same selected (Some one) (Some other) is = refl

abbrev admits : AnsweredInput → Bool
admits one = is_some (admitted_by one.answer)

flags_same : (selected : ℕ → Bool) (ones others : List AnsweredInput) → AllZip (AnswersInPlaceOf selected) ones others → map admits others ≡ map admits ones
flags_same selected [] [] all = refl
flags_same selected [] (other ∷ others) all = absurd all
flags_same selected (one ∷ ones) [] all = absurd all
flags_same selected (one ∷ ones) (other ∷ others) all =
    ap (λ (flag : Bool). flag ∷ map admits others) (admits_same selected (admitted_by one.answer) (admitted_by other.answer) all.0.admitted)
    ∙ ap (λ flags. admits one ∷ flags) (flags_same selected ones others all.1)

-- the admitted order of what stands in is that of what came
came_order : (selected : ℕ → Bool) (setup : Setup) (incoming other : Incoming) (tags order : List ℕ) → CanReceive setup → DiffersElsewhere selected setup incoming other
    → IsAdmittedOrder setup other tags order → IsAdmittedOrder setup incoming tags order
came_order selected setup incoming other tags order can differs admitted =
    let made = other_lanes selected setup incoming other differs in
    let names = names_a_flow (length setup.flows.items) in
    let channel : (c : ℕ) → c < channel_limit → map admits (admitted.answered c) ≡ map admits (differs.answered c) =
    λ c below. ap (map admits) (one-lane setup other can admitted.answered made.0 admitted.lanes made.1 c below)
    ∙ flags_same selected (differs.answered c) (made.0 c) (made.2 c below) in
    let same : (s : ℕ) → s < senders → are_items setup other admitted.answered s ≡ are_items setup incoming differs.answered s =
    five (λ s. are_items setup other admitted.answered s ≡ are_items setup incoming differs.answered s)
    (channel 0 (lit< tt)) (channel 1 (lit< tt)) (channel 2 (lit< tt)) (channel 3 (lit< tt))
    (ap (λ (ds : List Decision). map names ds) differs.decisions) in
    record {
      answered = differs.answered;
      lanes = differs.lanes;
      flags = admitted.flags;
      merged = merge-same (are_items setup other admitted.answered) (are_items setup incoming differs.answered) tags admitted.flags same admitted.merged;
      order_is = admitted.order_is;
    }

-- the whole, and the part
pub part_of_text : (selected : Selection) (rule : LossRule) (input : List ℕ) (said : Said) (setup : Setup) (other : Incoming) (order : List ℕ) (another : Outcome)
    → IsRead trace_format (nothing_said default_capacity) (lines_of input) said → IsSetupOf said setup → length (lines_of input) < 2 ^ 48
    → DiffersElsewhere (is_selected selected) setup (incoming_in said.entries) other → IsAdmittedOrder setup other (map tag_of said.entries) order
    → IsOutcomeBy rule any_header setup other order another → IsReplayedOf selected rule input (report_of selected another)
part_of_text selected rule input said setup other order another read given few differs admitted are =
    let lines = lines_of input in
    let says = read-few default_capacity lines said read in
    let incoming = incoming_in said.entries in
    let tags = map tag_of said.entries in
    let can = given_receives lines said setup read given in
    let came = came_order (is_selected selected) setup incoming other tags order can differs admitted in
    let intake = some_intake setup incoming came.answered order came.lanes (admitted-lawful setup incoming tags order came) in
    let count = length-map said.entries tag_of in
    let kept = few_kept tags came.flags in
    let long = ap length came.order_is in
    let room : HasRoom incoming order = record {
      inputs = λ channel below. omega (arith, few_given (came_on channel) said.entries);
      items = omega arith;
    } in
    let whole = some_replay setup incoming order intake room rule any_header (read-bytes default_capacity lines said read) in
    let is = whole.1 in
    let agrees = outcomes-agree (is_selected selected) rule any_header setup incoming other order whole.0 another can differs is are in
    record {
      whole = report_text whole.0;
      replayed = replayed_of rule input said setup order whole.0 read given came is;
      printed = sym (part_same selected whole.0 another agrees);
    }
