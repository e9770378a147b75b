-- Outcomes that say the same have one report.
use Rattle.std.proofs.Common.{◌≡◌, ℕ, suc, ◌+◌, ◌<◌, Some, List, [], ◌∷◌, ◌++◌, length, get_or, map, refl, sym, ap, subst, ◌∙◌, arith, add-zero}
use Rattle.std.specs.Prelude.{flat_map, slice_get, codes}
use Rattle.std.specs.List.{enumerate_from}
use Rattle.std.proofs.lemmas.List.{length-map, same_lists, get_or_default}
use Rattle.std.proofs.lemmas.List.Folds.{flat_map-map}
use Rattle.std.proofs.lemmas.Option.{slice_get_within}
use Rattle.flow_core.specs.declared.counts.FlowCounts.{FlowCounts}
use Rattle.lane.specs.Limits.{channel_limit}
use Rattle.lane.specs.declared.admitted.Request.{Request}
use Rattle.receiver.specs.declared.outcome.FlowOutcome.{FlowOutcome}
use Rattle.lane.specs.declared.report.LaneReport.{LaneReport}
use Rattle.receiver.specs.declared.outcome.Outcome.{Outcome}
use Rattle.receiver.specs.SameOutcome.{GaveTheSame, ReportTheSame, IsSameOutcome}
use Rattle.text_lines.specs.Lines.{line_feed}
use Rattle.text_lines.specs.Putting.{spaced, numbered_texts}
use Rattle.texts.specs.Report.{named, counts_text, frame_line, flow_lines, request_line, refused_text, lane_line, report_text}

-- the lines of items are those of others, if those of each place are
lines_from_same : {T : Type 0} (lines : ℕ → T → List ℕ) (n : ℕ) (items others : List T) → length items ≡ length others
    → ((k : ℕ) (item other : T) → slice_get items k ≡ Some item → slice_get others k ≡ Some other → lines (n + k) item ≡ lines (n + k) other)
    → flat_map (λ one. lines one.0 one.1) (enumerate_from n items) ≡ flat_map (λ one. lines one.0 one.1) (enumerate_from n others)
lines_from_same lines n [] [] same each = refl
lines_from_same lines n [] (other ∷ others) same each = absurd (omega arith)
lines_from_same lines n (item ∷ items) [] same each = absurd (omega arith)
lines_from_same lines n (item ∷ items) (other ∷ others) same each =
    let here : lines n item ≡ lines n other = subst (λ k. lines k item ≡ lines k other) (add-zero n) (each 0 item other refl refl) in
    let next = λ (k : ℕ). let place : n + suc k ≡ n + 1 + k = omega arith in place in
    let rest =
    lines_from_same lines (n + 1) items others (omega arith)
    (λ k one another at also. subst (λ place. lines place one ≡ lines place another) (next k) (each (suc k) one another at also))
    in
    ap (λ front. front ++ flat_map (λ one. lines one.0 one.1) (enumerate_from (n + 1) items)) here ∙ ap (λ more. lines n other ++ more) rest

numbered_texts_same : {T : Type 0} (lines : ℕ → T → List ℕ) (items others : List T) → length items ≡ length others
    → ((k : ℕ) (item other : T) → slice_get items k ≡ Some item → slice_get others k ≡ Some other → lines k item ≡ lines k other)
    → numbered_texts lines items ≡ numbered_texts lines others
numbered_texts_same lines items others same each =
    let from = λ (k : ℕ). let place : k ≡ 0 + k = omega arith in place in
    lines_from_same lines 0 items others same
    (λ k one another at also. subst (λ place. lines place one ≡ lines place another) (from k) (each k one another at also))

-- the lines of a flow, by what they say of it
lines_of_flow : ℕ → ℕ → FlowCounts → List (List ℕ) → List ℕ
lines_of_flow k sfid counts frames = (codes "flow" ++ spaced k ++ spaced sfid ++ counts_text counts ++ line_feed ∷ []) ++ flat_map (frame_line k) frames

flow_lines_same : (k : ℕ) (flow other : FlowOutcome) → GaveTheSame flow other → flow_lines k flow ≡ flow_lines k other
unfolding lines_of_flow
flow_lines_same k flow other same =
    ap (λ sfid. lines_of_flow k sfid flow.counts flow.frames.items) same.sfid
    ∙ ap (λ counts. lines_of_flow k other.sfid counts flow.frames.items) same.counts
    ∙ ap (λ frames. lines_of_flow k other.sfid other.counts frames) same.frames

-- and of a lane
line_of_lane : ℕ → ℕ → List ℕ → List ℕ
line_of_lane channel admitted refused =
    codes "lane" ++ spaced channel ++ named (codes "admitted") admitted ++ codes " refused" ++ refused_text refused ++ line_feed ∷ []

lane_line_same : (channel : ℕ) (lane other : LaneReport) → ReportTheSame lane other → lane_line channel lane ≡ lane_line channel other
unfolding line_of_lane
lane_line_same channel lane other same =
    ap (λ admitted. line_of_lane channel admitted lane.refused.items) same.admitted
    ∙ ap (λ refused. line_of_lane channel other.admitted refused) same.refused

-- so is the report of the outcome
pub report_text_same : (outcome other : Outcome) → length outcome.requests ≡ channel_limit → length other.requests ≡ channel_limit
    → length outcome.lanes ≡ channel_limit → length other.lanes ≡ channel_limit → IsSameOutcome outcome other → report_text outcome ≡ report_text other
report_text_same outcome other requests more lanes others same =
    let flows =
    numbered_texts_same flow_lines outcome.flows.items other.flows.items same.count
    (λ k flow another at also. flow_lines_same k flow another (same.flows k flow another at also))
    in
    let lists = λ (o : Outcome). map (λ requests. requests.items) o.requests in
    let long : length (lists outcome) ≡ 4 = length-map outcome.requests (λ requests. requests.items) ∙ requests in
    let as_long : length (lists other) ≡ 4 = length-map other.requests (λ requests. requests.items) ∙ more in
    let each : (k : ℕ) (d : List Request) → k < length (lists outcome) → get_or (lists outcome) k d ≡ get_or (lists other) k d =
    λ k d within.
    get_or_default (lists outcome) k d [] within
    ∙ same.requests k (omega (arith, long))
    ∙ get_or_default (lists other) k [] d (omega (arith, long, as_long, within))
    in
    let asked : lists outcome ≡ lists other = same_lists (lists outcome) (lists other) (long ∙ sym as_long) each in
    let request_lines =
    sym (flat_map-map (flat_map request_line) (λ requests. requests.items) outcome.requests)
    ∙ ap (flat_map (flat_map request_line)) asked
    ∙ flat_map-map (flat_map request_line) (λ requests. requests.items) other.requests
    in
    let lane_lines =
    numbered_texts_same lane_line outcome.lanes other.lanes (lanes ∙ sym others)
    (λ k lane another at also.
    let below : k < channel_limit = omega (arith, slice_get_within outcome.lanes k lane at, lanes) in
    lane_line_same k lane another (same.reports k lane another below at also))
    in
    ap (λ front. front ++ flat_map (λ requests. flat_map request_line requests.items) outcome.requests ++ numbered_texts lane_line outcome.lanes) flows
    ∙ ap (λ middle. numbered_texts flow_lines other.flows.items ++ middle ++ numbered_texts lane_line outcome.lanes) request_lines
    ∙ ap (λ last. numbered_texts flow_lines other.flows.items ++ flat_map (λ requests. flat_map request_line requests.items) other.requests ++ last) lane_lines
