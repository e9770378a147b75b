-- Outcomes that agree on some flows have one report of these.
use Rattle.std.proofs.Common.{◌≡◌, ℕ, suc, ◌+◌, Bool, true, false, cond, Some, List, [], ◌∷◌, ◌++◌, length, map, slice_get, refl, ap, sym, subst, ◌∙◌, arith}
use Rattle.std.specs.Prelude.{flat_map, codes}
use Rattle.std.specs.List.{enumerate_from}
use Rattle.std.proofs.lemmas.List.{length-map, same_lists, get_or_default}
use Rattle.std.proofs.lemmas.List.Folds.{flat_map-map}
use Rattle.flow_core.specs.declared.counts.FlowCounts.{FlowCounts}
use Rattle.flow_selection.specs.declared.selection.Selection.{Selection}
use Rattle.flow_selection.specs.Selection.{is_selected}
use Rattle.lane.specs.declared.report.LaneReport.{LaneReport}
use Rattle.receiver.specs.declared.outcome.FlowOutcome.{FlowOutcome}
use Rattle.receiver.specs.declared.outcome.Outcome.{Outcome}
use Rattle.receiver.specs.Outcome.{requests_on}
use Rattle.receiver.specs.SameOutcome.{GaveTheSame, ReportTheSame}
use Rattle.text_lines.specs.Lines.{line_feed}
use Rattle.text_lines.specs.Putting.{spaced, numbered_texts}
use Rattle.texts.specs.Report.{named, flow_line, frame_line, request_line, refused_text, lane_line}
use Rattle.texts.specs.Selected.{report_of}
use Rattle.texts.specs.Inside.Selected.{selected_flow_lines}
use Rattle.texts.proofs.SelectedLines.{report_of-flows}
use Rattle.receiver.specs.Elsewhere.{AgreesOn}

-- the lines of items are those of others, if those of each place are
lines_same : {T : Type 0} (lines : ℕ → T → List ℕ) (n : ℕ) (items others : List T) → length items ≡ length others
    → ((k : ℕ) (item other : T) → slice_get items k ≡ Some item → slice_get others k ≡ Some other → lines (n + k) item ≡ lines (n + k) other)
    → flat_map (λ one. lines one.0 one.1) (enumerate_from n items) ≡ flat_map (λ one. lines one.0 one.1) (enumerate_from n others)
lines_same lines n [] [] same each = refl
lines_same lines n [] (other ∷ others) same each = absurd (omega arith)
lines_same lines n (item ∷ items) [] same each = absurd (omega arith)
lines_same lines n (item ∷ items) (other ∷ others) same each =
    let at : n + 0 ≡ n = omega arith in
    let here : lines n item ≡ lines n other = subst (λ k. lines k item ≡ lines k other) at (each 0 item other refl refl) in
    let rest = lines_same lines (n + 1) items others (omega arith)
    (λ k one another there also. let place : n + suc k ≡ n + 1 + k = omega arith in
    subst (λ m. lines m one ≡ lines m another) place (each (suc k) one another there also)) in
    ap (λ front. front ++ flat_map (λ one. lines one.0 one.1) (enumerate_from (n + 1) items)) here ∙ ap (λ more. lines n other ++ more) rest

pub numbered_same : {T : Type 0} (lines : ℕ → T → List ℕ) (items others : List T) → length items ≡ length others
    → ((k : ℕ) (item other : T) → slice_get items k ≡ Some item → slice_get others k ≡ Some other → lines k item ≡ lines k other)
    → numbered_texts lines items ≡ numbered_texts lines others
numbered_same lines items others same each =
    lines_same lines 0 items others same
    (λ k one another there also. let at : k ≡ 0 + k = omega arith in subst (λ m. lines m one ≡ lines m another) at (each k one another there also))

-- the lines of a flow, by what they say of it
flow_text : ℕ → ℕ → FlowCounts → List (List ℕ) → List ℕ
flow_text k sfid counts frames = flow_line k sfid counts ++ flat_map (frame_line k) frames

chosen_same : (choice : Bool) (k : ℕ) (flow other : FlowOutcome) → (choice ≡ true → GaveTheSame flow other)
    → cond choice (flow_line k flow.sfid flow.counts ++ flat_map (frame_line k) flow.frames.items) []
    ≡ cond choice (flow_line k other.sfid other.counts ++ flat_map (frame_line k) other.frames.items) []
unfolding flow_text
chosen_same true k flow other same =
    let is = same refl in
    ap (λ sfid. flow_text k sfid flow.counts flow.frames.items) is.sfid
    ∙ ap (λ counts. flow_text k other.sfid counts flow.frames.items) is.counts
    ∙ ap (λ frames. flow_text k other.sfid other.counts frames) is.frames
chosen_same false k flow other same = refl

-- the line of a lane, by what it says of it
lane_text : ℕ → ℕ → List ℕ → List ℕ
lane_text channel admitted refused =
    codes "lane" ++ spaced channel ++ named (codes "admitted") admitted ++ codes " refused" ++ refused_text refused ++ line_feed ∷ []

lane_same : (channel : ℕ) (report other : LaneReport) → ReportTheSame report other → lane_line channel report ≡ lane_line channel other
unfolding lane_text
lane_same channel report other same =
    ap (λ admitted. lane_text channel admitted report.refused.items) same.admitted
    ∙ ap (λ refused. lane_text channel other.admitted refused) same.refused

-- the lines of all that was asked for
abbrev request_lines : Outcome → List ℕ
request_lines outcome = flat_map (λ requests. flat_map request_line requests.items) outcome.requests

requests_same : (outcome other : Outcome) → length outcome.requests ≡ length other.requests
    → ((channel : ℕ) → requests_on outcome channel ≡ requests_on other channel) → request_lines outcome ≡ request_lines other
requests_same outcome other same each =
    let lists = λ (o : Outcome). map (λ requests. requests.items) o.requests in
    let long = length-map outcome.requests (λ requests. requests.items) in
    let as_long = length-map other.requests (λ requests. requests.items) in
    let asked : lists outcome ≡ lists other = same_lists (lists outcome) (lists other) (long ∙ same ∙ sym as_long)
    (λ k d within.
    get_or_default (lists outcome) k d [] within
    ∙ each k
    ∙ get_or_default (lists other) k [] d (omega (arith, long, as_long, same, within))) in
    sym (flat_map-map (flat_map request_line) (λ requests. requests.items) outcome.requests)
    ∙ ap (flat_map (flat_map request_line)) asked
    ∙ flat_map-map (flat_map request_line) (λ requests. requests.items) other.requests

-- so is the report of the flows that are selected
pub part_same : (selected : Selection) (outcome other : Outcome) → AgreesOn (is_selected selected) outcome other → report_of selected outcome ≡ report_of selected other
part_same selected outcome other agrees =
    let flows = numbered_same (selected_flow_lines selected) outcome.flows.items other.flows.items agrees.count
    (λ k flow another there here. chosen_same (is_selected selected k) k flow another (λ chosen. agrees.flows k flow another chosen there here)) in
    let requests = requests_same outcome other agrees.request_lists agrees.requests in
    let lanes = numbered_same lane_line outcome.lanes other.lanes agrees.report_count
    (λ k report another there here. lane_same k report another (agrees.reports k report another there here)) in
    let all : Outcome → List ℕ = λ o. numbered_texts (selected_flow_lines selected) o.flows.items in
    report_of-flows selected outcome
    ∙ ap (λ front. (front ++ request_lines outcome) ++ numbered_texts lane_line outcome.lanes) flows
    ∙ ap (λ asked. (all other ++ asked) ++ numbered_texts lane_line outcome.lanes) requests
    ∙ ap (λ reported. (all other ++ request_lines other) ++ reported) lanes
    ∙ sym (report_of-flows selected other)
