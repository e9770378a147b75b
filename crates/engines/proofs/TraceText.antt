-- What was replayed of the lines of a trace is what its text reports.
use Rattle.std.proofs.Common.{◌≡◌, ℕ, ◌≤◌, ◌<◌, ◌^◌, ◌==◌, Bool, true, false, cond, List, [], ◌∷◌, length, map, Option, refl, subst, ◌∙◌, arith}
use Rattle.std.specs.List.{slice_split}
use Rattle.std.proofs.lemmas.List.Splits.{length-slice_split}
use Rattle.std.proofs.lemmas.List.Sums.{count_by-le-length}
use Rattle.loss_rule.specs.declared.rule.LossRule.{LossRule}
use Rattle.receiver.specs.declared.outcome.Outcome.{Outcome}
use Rattle.receiver.specs.declared.setup.Setup.{Setup}
use Rattle.receiver.specs.AdmittedOrder.{IsAdmittedOrder}
use Rattle.receiver.specs.Elsewhere.{DiffersElsewhere}
use Rattle.receiver.specs.Entries.{tag_of, incoming_in}
use Rattle.receiver.specs.Items.{Incoming}
use Rattle.receiver.specs.Ruled.{IsOutcomeBy}
use Rattle.text_lines.specs.Capacities.{default_capacity}
use Rattle.text_lines.specs.Format.{IsRead, IsFirstFaultyLine}
use Rattle.text_lines.specs.Lines.{lines_of, lines_of_parts, is_line_feed}
use Rattle.text_lines.specs.declared.fault.TextFault.{TextFault}
use Rattle.text_lines.specs.declared.fault.TextFault.TheVariants.{Trace, Cut, OutOfMemory}
use Rattle.texts.specs.Inside.TraceInput.{TraceState, taking_format}
use Rattle.texts.specs.AnyHeader.{any_header}
use Rattle.texts.specs.Inside.InPlace.{IsPlayedInPart}
use Rattle.texts.specs.Replay.{IsSetupOf, IsPlayedBy, IsReplayedBy, IsReplayFault}
use Rattle.flow_selection.specs.declared.selection.Selection.{Selection}
use Rattle.flow_selection.specs.Selection.{is_selected}
use Rattle.texts.specs.Report.{report_text}
use Rattle.texts.specs.Selected.{report_of, IsReplayedOf}
use Rattle.texts.specs.Trace.Place.{Said, nothing_said, trace_format}
use Rattle.texts.proofs.HandedLines.{read_alone, faulty_alone}
use Rattle.engines.specs.Limits.{input_limit}
use Rattle.engines.specs.LinesRead.{HasReadLines, IsLinesFault}

-- what the lines give by the rule, which no line changed
pub is_replayed : {Lines : Type 0} (Has : TraceState (Unit {0}) → Lines → Type 0) (start : TraceState (Unit {0})) (known : Option (List ℕ)) (lines : Lines)
    (outcome : Outcome) → start.said ≡ nothing_said default_capacity → (read : HasReadLines taking_format start Has known lines)
    → ((given : TraceState (Unit {0})) → Has given lines → IsPlayedBy given.rule given.said outcome)
    → IsReplayedBy start.rule read.input (report_text outcome)
is_replayed Has start known lines outcome none read played =
    let all = read_alone read.read in
    record {
      said = read.state.said;
      read = subst (λ (said : Said). IsRead trace_format said (lines_of read.input) read.state.said) none all.3;
      outcome = outcome;
      played = subst (λ (by : LossRule). IsPlayedBy by read.state.said outcome) all.1 (played read.state read.stands);
      printed = refl;
    }

-- so where some flows are asked for
pub is_replayed_of : {Lines : Type 0} (selected : Selection) (Has : TraceState (Unit {0}) → Lines → Type 0) (start : TraceState (Unit {0})) (known : Option (List ℕ))
    (lines : Lines) (outcome : Outcome) → start.said ≡ nothing_said default_capacity → (read : HasReadLines taking_format start Has known lines)
    → ((given : TraceState (Unit {0})) → Has given lines → IsPlayedBy given.rule given.said outcome)
    → IsReplayedOf selected start.rule read.input (report_of selected outcome)
unfolding is_replayed
is_replayed_of selected Has start known lines outcome none read played =
    record { whole = report_text outcome; replayed = is_replayed Has start known lines outcome none read played; printed = refl }

-- there are few lines in an input that an engine reads
few_lines : (input : List ℕ) → length input ≤ input_limit → length (lines_of input) < 2 ^ 48
few_lines input few =
    let parts = parts_within (slice_split is_line_feed input) in
    let split = length-slice_split is_line_feed input in
    let feeds = count_by-le-length is_line_feed input in
    omega arith
  where
    parts_within : (parts : List (List ℕ)) → length (lines_of_parts parts) ≤ length parts
    parts_within [] = omega arith
    parts_within (part ∷ []) = last (length part == 0)
      where
        last : (empty : Bool) → length (cond empty [] (part ∷ [])) ≤ 1
        last true = omega arith
        last false = omega arith
    parts_within (part ∷ next ∷ parts) = let rest = parts_within (next ∷ parts) in omega arith

-- so where only some flows' bursts were replayed: what stands in for the others gives that part
pub part_replayed : {Lines : Type 0} (selected : Selection) (Has : TraceState Selection → Lines → Type 0) (start : TraceState Selection) (known : Option (List ℕ))
    (lines : Lines) (outcome : Outcome) → start.said ≡ nothing_said default_capacity → start.state ≡ selected → (read : HasReadLines taking_format start Has known lines)
    → ((given : TraceState Selection) → Has given lines → IsPlayedInPart given.state given.rule given.said outcome)
    → ((selected : ℕ → Bool) (setup : Setup) (incoming other : Incoming) → DiffersElsewhere selected setup incoming other → DiffersElsewhere selected setup other incoming)
    → ((selected : Selection) (rule : LossRule) (input : List ℕ) (said : Said) (setup : Setup) (other : Incoming) (order : List ℕ) (another : Outcome)
    → IsRead trace_format (nothing_said default_capacity) (lines_of input) said → IsSetupOf said setup → length (lines_of input) < 2 ^ 48
    → DiffersElsewhere (is_selected selected) setup (incoming_in said.entries) other → IsAdmittedOrder setup other (map tag_of said.entries) order
    → IsOutcomeBy rule any_header setup other order another → IsReplayedOf selected rule input (report_of selected another))
    → IsReplayedOf selected start.rule read.input (report_of selected outcome)
part_replayed selected Has start known lines outcome none chosen read played either_side gives_part =
    let all = read_alone read.read in
    let said = read.state.said in
    let part = subst (λ (by : LossRule). IsPlayedInPart selected by said outcome) all.1
    (subst (λ (flows : Selection). IsPlayedInPart flows read.state.rule said outcome) (all.0 ∙ chosen) (played read.state read.stands)) in
    gives_part selected start.rule read.input said part.setup part.other part.order outcome
    (subst (λ (first : Said). IsRead trace_format first (lines_of read.input) said) none all.3) part.given (few_lines read.input read.few)
    (either_side (is_selected selected) part.setup part.other (incoming_in said.entries) part.differs) part.admitted part.answered

-- and why they give nothing
pub lines_fault : {State : Type 0} (start : TraceState State) → start.said ≡ nothing_said default_capacity → (input : List ℕ) (fault : TextFault)
    → IsLinesFault taking_format start input fault → IsReplayFault input fault
lines_fault start none input (Trace fault) faulty =
    subst (λ (said : Said). IsFirstFaultyLine trace_format said (lines_of input) fault) none (faulty_alone start (lines_of input) fault faulty)
lines_fault start none input (Cut fault) faulty = absurd faulty
lines_fault start none input OutOfMemory faulty = tt
