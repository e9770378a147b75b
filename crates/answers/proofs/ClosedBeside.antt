-- What the whole gives as it is closed, beside what was given for stand-ins.
use Rattle.std.proofs.Common.{◌≡◌, ℕ, ◌<◌, ◌≤◌, ◌^◌, inl, inr, Bool, true, false, Option, Some, None, All, List, [], ◌++◌, length, map, get_or, replicate, refl, sym, ap, subst, ◌∙◌, arith}
use Rattle.std.specs.Prelude.{if◌then◌else◌, slice_get}
use Rattle.std.proofs.lemmas.Bool.{cases_lt}
use Rattle.std.proofs.lemmas.List.Elements.{filter_map-append}
use Rattle.std.proofs.lemmas.Option.{same_Some, slice_get_within, slice_get_past, slice_get-get_or}
use Rattle.flow_records.specs.Counted.{counted}
use Rattle.flow_records.specs.declared.record.FlowRecord.{FlowRecord}
use Rattle.flow_selection.specs.declared.selection.Selection.{Selection}
use Rattle.flow_selection.specs.Selection.{is_selected}
use Rattle.flow_core.specs.declared.counts.FlowCounts.{FlowCounts}
use Rattle.flow_core.specs.Counts.{no_counts}
use Rattle.flow_core.specs.Fates.{Fates}
use Rattle.flow_core.specs.Events.{gap}
use Rattle.flow_core.specs.Closing.{IsClosed}
use Rattle.flow_core.proofs.Closing.{some-close}
use Rattle.lane.specs.Report.{requests_of}
use Rattle.loss_rule.specs.Rule.{Coming}
use Rattle.consumer.specs.declared.given.Given.{Given}
use Rattle.consumer.specs.Given.{frame_of, frames_of, requests_given}
use Rattle.bonded_flows.specs.ByRule.{GaveByRule}
use Rattle.bonded_flows.specs.FlowSetup.{FlowSetup}
use Rattle.bonded_flows.specs.Parts.{FlowInput, comes, Part, last_part, begun_at, GaveInParts}
use Rattle.bonded_flows.specs.Table.{TableSetup, flow_setup, inputs_at}
use Rattle.receiver.specs.declared.closing.Closed.{Closed}
use Rattle.receiver.specs.declared.tally.LaneTally.{LaneTally}
use Rattle.receiver.specs.Entries.{Entry}
use Rattle.receiver.specs.HandedIn.{HandedIn, answered_on, flow_inputs}
use Rattle.receiver.specs.Received.{GaveAllParts, IsReceived}
use Rattle.receiver.specs.Tallies.{IsTallyOf}
use Rattle.receiver.proofs.TakenInOrder.{one-part_last, one-part_over}
use Rattle.texts.specs.declared.follow.happening.Happening.{Happening}
use Rattle.texts.specs.AnyHeader.{any_header}
use Rattle.texts.specs.FollowedReport.{came_to}
use Rattle.texts.specs.Happened.{IsOfTrace}
use Rattle.texts.proofs.GivenOfTrace.{all_come}
use Rattle.answers.specs.Bytes.{AreBytes}
use Rattle.answers.specs.Beside.{KeepsCarrying, GivesOfBytes, HappenedSoFar, IsBeside, AreCountedAlike, ClosesWhole}
use Rattle.answers.proofs.Vectors.{vec_of}
use Rattle.answers.proofs.FlowsInTurn.{given_by_first, none_above, own_frames, first_have, as_many, have_there}
use Rattle.answers.proofs.Keeping.{kept-leads}
use Rattle.answers.proofs.SomeOutcome.{gaps-of_bytes}
use Rattle.answers.proofs.GrownOutcome.{grown_outcome}
use Rattle.answers.proofs.GivenFlows.{same_fates}
use Rattle.answers.proofs.OtherItems.{requests-same, count-same, refused-same}
use Rattle.answers.proofs.HandedInPlace.{answers_for, inputs_for}
use Rattle.answers.proofs.GivenBeside.{of_both, kept_of_both, frames_selected, frames_unselected, requests_of_both}

-- ---- the close of one flow

-- What a flow gives more as it is closed.
pub record GivesLast (check : List ℕ → Bool) (setup : FlowSetup) (comings : List Coming) (frames : List (List ℕ)) : Type 0 where
  pub more : List (List ℕ)
  pub counts : FlowCounts
  pub gave : GaveByRule check setup comings (frames ++ more) counts

-- there is something, where what it keeps is of bytes
pub gives_last : (check : List ℕ → Bool) (setup : FlowSetup) (comings : List Coming) (frames : List (List ℕ)) → GivesOfBytes check setup comings frames
    → GivesLast check setup comings frames
gives_last check setup comings frames was =
    let flow_record = setup.flow_record in
    let given = was.given in
    let outcome = given.outcome in
    let close = some-close flow_record.first flow_record.window given.events outcome.answers outcome.fates outcome.after in
    let n = close.1.0 in
    let gaps = close.1.1 in
    let leads = close.1.2 in
    let kept = subst (KeepsCarrying AreBytes) (sym (same_fates check setup comings frames was)) was.kept in
    let carries = kept-leads AreBytes flow_record.first flow_record.window (replicate n gap) gaps outcome.fates close.0 leads kept (gaps-of_bytes n) in
    let grown = grown_outcome check flow_record given.events (replicate n gap) frames was.counts outcome gaps close.0 leads carries in
    record {
      more = grown.more;
      counts = grown.grown;
      gave = record {
        events = given.events;
        lasts = given.lasts;
        fates = given.fates;
        ruled = given.ruled;
        n = n;
        outcome = grown.outcome;
        closed = subst (λ (f : Fates). IsClosed f) (sym grown.same) close.1.3;
      };
    }

-- a flow to which things only come gave all in one part
gave_in_one : (check : List ℕ → Bool) (setup : FlowSetup) (comings : List Coming) (frames : List (List ℕ)) (counts : FlowCounts)
    → GaveByRule check setup comings frames counts → GaveAllParts check setup (map comes comings) frames counts
gave_in_one check setup comings frames counts gave = record {
  earlier = [];
  own = frames;
  gave = subst (λ (parts : List Part). GaveInParts check setup parts []) (sym (one-part_over setup comings)) refl;
  last =
      subst (λ (part : Part). GaveByRule check (begun_at setup part.first) part.comings frames counts) (sym (one-part_last setup comings)) gave;
  all = refl;
}

-- so did a flow of a trace
gave_all_of_trace : (made : TableSetup) (channels k : ℕ) (flow_record : FlowRecord) (handed : List HandedIn) (frames : List (List ℕ)) (counts : FlowCounts)
    → All (IsOfTrace channels) handed → GaveByRule any_header (flow_setup made k flow_record) (came_to made handed k flow_record) frames counts
    → GaveAllParts any_header (flow_setup made k flow_record) (inputs_at k (flow_inputs (length made.records) handed)) frames counts
gave_all_of_trace made channels k flow_record handed frames counts each gave =
    let setup = flow_setup made k flow_record in
    let found = all_come channels (length made.records) k handed each in
    let came_is : came_to made handed k flow_record ≡ found.0 =
    ap (λ (inputs : List FlowInput). (last_part setup inputs).comings) found.1 ∙ ap (λ (part : Part). part.comings) (one-part_last setup found.0) in
    subst (λ (inputs : List FlowInput). GaveAllParts any_header setup inputs frames counts) (sym found.1)
    (gave_in_one any_header setup found.0 frames counts (subst (λ (comings : List Coming). GaveByRule any_header setup comings frames counts) came_is gave))

-- ---- the close of all flows

module _ (made : TableSetup) (handed : List HandedIn) (given : List Given) (happened : List Happening) (was : HappenedSoFar made handed given happened) where
  -- What the flow with this index gives more as it is closed, if there is one.
  record LastFrames (k : ℕ) : Type 0 where
    more : List (List ℕ)
    counts : FlowCounts
    gave : (flow_record : FlowRecord) → slice_get made.records k ≡ Some flow_record
        → GaveByRule any_header (flow_setup made k flow_record) (came_to made handed k flow_record) (frames_of k given ++ more) counts

  last_frames : (k : ℕ) → LastFrames k
  last_frames k = of_record (slice_get made.records k) refl where
    of_record : (known : Option FlowRecord) → slice_get made.records k ≡ known → LastFrames k
    of_record None none = record { more = []; counts = no_counts; gave = λ flow_record there. let wrong = sym none ∙ there in absurd cc }
    of_record (Some flow_record) here =
        let last = gives_last any_header (flow_setup made k flow_record) (came_to made handed k flow_record) (frames_of k given) (was.flows k flow_record here) in
        record {
          more = last.more;
          counts = last.counts;
          gave = λ other there.
              subst (λ (r : FlowRecord). GaveByRule any_header (flow_setup made k r) (came_to made handed k r) (frames_of k given ++ last.more) last.counts)
              (same_Some flow_record other (sym here ∙ there)) last.gave;
        }

  -- what all flows give
  abbrev given_by_all : List Given
  given_by_all = given_by_first (λ k. (last_frames k).more) (length made.records)

  gave_with_all : (k : ℕ) (flow_record : FlowRecord) → slice_get made.records k ≡ Some flow_record
      → GaveByRule any_header (flow_setup made k flow_record) (came_to made handed k flow_record) (frames_of k (given ++ given_by_all)) (last_frames k).counts
  gave_with_all k flow_record there =
      let last = last_frames k in
      subst (λ (frames : List (List ℕ)). GaveByRule any_header (flow_setup made k flow_record) (came_to made handed k flow_record) frames last.counts)
      (sym (filter_map-append (frame_of k) given given_by_all
      ∙ ap (λ (t : List (List ℕ)). frames_of k given ++ t) (own_frames (λ j. (last_frames j).more) (length made.records) k (slice_get_within made.records k flow_record there))))
      (last.gave flow_record there)

  none_of_others : (k : ℕ) → length made.records ≤ k → frames_of k (given ++ given_by_all) ≡ []
  none_of_others k past =
      filter_map-append (frame_of k) given given_by_all ∙ ap (λ (t : List (List ℕ)). t ++ frames_of k given_by_all) (was.others k past)
      ∙ none_above (λ j. (last_frames j).more) (length made.records) k past

-- ---- the close of the whole

module _ (selected : Selection) (made : TableSetup) (others : List HandedIn) (also : List Given) (entries : List Entry) (handed : List HandedIn) (given : List Given) (happened : List Happening)
    (was : IsBeside selected made others also entries handed given happened) (rest : List Given) (closed : Closed) (received : IsReceived any_header made others (also ++ rest) closed) where
  abbrev chosen : ℕ → Bool
  chosen = is_selected selected

  abbrev flow_count : ℕ
  flow_count = length made.records

  -- what all its flows have left to give
  abbrev own : List Given
  own = given_by_all made handed given happened was.so_far

  -- what it gives: of the selected flows and of none what was given for the stand-ins, and of the
  -- other flows what is theirs
  abbrev more_beside : List Given
  more_beside = of_both selected rest own

  frames_chosen : (k : ℕ) → chosen k ≡ true → frames_of k (given ++ more_beside) ≡ frames_of k (also ++ rest)
  frames_chosen = frames_selected selected given also rest own was.given_same

  frames_others : (k : ℕ) → chosen k ≡ false → frames_of k (given ++ more_beside) ≡ frames_of k (given ++ own)
  frames_others = frames_unselected selected given also rest own was.given_same

  -- ---- what is counted

  abbrev counts_at : ℕ → FlowCounts
  counts_at k = if chosen k then get_or closed.flows.items k no_counts else (last_frames made handed given happened was.so_far k).counts

  counts_chosen : (k : ℕ) → chosen k ≡ true → counts_at k ≡ get_or closed.flows.items k no_counts
  counts_chosen k is = ap (λ (b : Bool). if b then get_or closed.flows.items k no_counts else (last_frames made handed given happened was.so_far k).counts) is

  counts_others : (k : ℕ) → chosen k ≡ false → counts_at k ≡ (last_frames made handed given happened was.so_far k).counts
  counts_others k is = ap (λ (b : Bool). if b then get_or closed.flows.items k no_counts else (last_frames made handed given happened was.so_far k).counts) is

  abbrev all_counts : List FlowCounts
  all_counts = first_have counts_at flow_count

  small : length all_counts < 2 ^ 63
  small = let size = as_many counts_at flow_count in let count = received.flow_count in let few = closed.flows.small in omega arith

  abbrev counted_all : Closed
  counted_all = record { flows = vec_of all_counts small; lanes = closed.lanes }

  -- ---- what comes of all that was handed in

  flows_all : (k : ℕ) (flow_record : FlowRecord) (counts : FlowCounts) → slice_get made.records k ≡ Some flow_record → slice_get all_counts k ≡ Some counts
      → GaveAllParts any_header (flow_setup made k flow_record) (inputs_at k (flow_inputs flow_count handed)) (frames_of k (given ++ more_beside)) counts
  flows_all k flow_record counts there here =
      let setup = flow_setup made k flow_record in
      let within = slice_get_within made.records k flow_record there in
      let is_it : counts_at k ≡ counts = same_Some (counts_at k) counts (sym (have_there counts_at flow_count k within) ∙ here) in
      subst (λ (c : FlowCounts). GaveAllParts any_header setup (inputs_at k (flow_inputs flow_count handed)) (frames_of k (given ++ more_beside)) c) is_it (by_flag (chosen k) refl within)
    where
      by_flag : (b : Bool) → chosen k ≡ b → k < flow_count
          → GaveAllParts any_header (flow_setup made k flow_record) (inputs_at k (flow_inputs flow_count handed)) (frames_of k (given ++ more_beside)) (counts_at k)
      by_flag true is within =
          let setup = flow_setup made k flow_record in
          let count = received.flow_count in
          let inside : k < length closed.flows.items = omega arith in
          let theirs = received.flows k flow_record (get_or closed.flows.items k no_counts) there (slice_get-get_or closed.flows.items k no_counts inside) in
          let same = inputs_for chosen k is flow_count others handed was.in_place in
          subst (λ (c : FlowCounts). GaveAllParts any_header setup (inputs_at k (flow_inputs flow_count handed)) (frames_of k (given ++ more_beside)) c) (sym (counts_chosen k is))
          (subst (λ (frames : List (List ℕ)). GaveAllParts any_header setup (inputs_at k (flow_inputs flow_count handed)) frames (get_or closed.flows.items k no_counts))
          (sym (frames_chosen k is))
          (subst (λ (inputs : List FlowInput). GaveAllParts any_header setup inputs (frames_of k (also ++ rest)) (get_or closed.flows.items k no_counts)) (sym same) theirs))
      by_flag false is within =
          let setup = flow_setup made k flow_record in
          let last = last_frames made handed given happened was.so_far k in
          let all = gave_all_of_trace made made.channels k flow_record handed (frames_of k (given ++ own)) last.counts was.so_far.each
          (gave_with_all made handed given happened was.so_far k flow_record there) in
          subst (λ (c : FlowCounts). GaveAllParts any_header setup (inputs_at k (flow_inputs flow_count handed)) (frames_of k (given ++ more_beside)) c) (sym (counts_others k is))
          (subst (λ (frames : List (List ℕ)). GaveAllParts any_header setup (inputs_at k (flow_inputs flow_count handed)) frames last.counts) (sym (frames_others k is)) all)

  others_all : (k : ℕ) → flow_count ≤ k → frames_of k (given ++ more_beside) ≡ []
  others_all k past = by_flag (chosen k) refl where
    by_flag : (b : Bool) → chosen k ≡ b → frames_of k (given ++ more_beside) ≡ []
    by_flag true is = frames_chosen k is ∙ received.others k past
    by_flag false is = frames_others k is ∙ none_of_others made handed given happened was.so_far k past

  requests_all : (channel : ℕ) → requests_given channel (given ++ more_beside) ≡ requests_of (answered_on channel handed)
  requests_all channel =
      requests_of_both selected given also rest own was.given_same channel ∙ received.requests channel
      ∙ sym (requests-same chosen (answered_on channel others) (answered_on channel handed) (answers_for chosen others handed was.in_place channel))

  tallies_all : (channel : ℕ) (tally : LaneTally) → slice_get closed.lanes.items channel ≡ Some tally → IsTallyOf (answered_on channel handed) tally
  tallies_all channel tally there =
      let answers = answers_for chosen others handed was.in_place channel in
      let is = received.tallies channel tally there in
      record {
        admitted = is.admitted ∙ sym (count-same chosen (answered_on channel others) (answered_on channel handed) answers);
        refused =
            is.refused ∙ ap (λ (numbers : List ℕ). counted (length numbers)) (sym (refused-same chosen (answered_on channel others) (answered_on channel handed) answers));
      }

  received_all : IsReceived any_header made handed (given ++ more_beside) counted_all
  received_all = record {
    answered = was.so_far.answered;
    flow_count = as_many counts_at flow_count;
    flows = flows_all;
    others = others_all;
    requests = requests_all;
    lane_count = received.lane_count;
    tallies = tallies_all;
  }

  -- ---- what is counted alike

  alike_at : (k : ℕ) → chosen k ≡ true → slice_get all_counts k ≡ slice_get closed.flows.items k
  alike_at k is = elim (cases_lt k flow_count) [
    | inl below ↦
        let count = received.flow_count in
        let inside : k < length closed.flows.items = omega arith in
        have_there counts_at flow_count k below ∙ ap (λ (c : FlowCounts). Some c) (counts_chosen k is) ∙ sym (slice_get-get_or closed.flows.items k no_counts inside)
    | inr past ↦
        let size = as_many counts_at flow_count in
        let count = received.flow_count in
        slice_get_past all_counts k (omega arith) ∙ sym (slice_get_past closed.flows.items k (omega arith))
  ]

  counted_alike : AreCountedAlike selected closed counted_all
  counted_alike = record { count = as_many counts_at flow_count ∙ sym received.flow_count; flows = alike_at; lanes = refl }

-- so the whole is closed beside the stand-ins
pub closes_beside : (selected : Selection) (made : TableSetup) (others : List HandedIn) (also : List Given) (entries : List Entry) (handed : List HandedIn) (given : List Given) (happened : List Happening)
    (rest : List Given) (closed : Closed) → IsBeside selected made others also entries handed given happened → All (IsOfTrace made.channels) others
    → IsReceived any_header made others (also ++ rest) closed → ClosesWhole selected made handed given rest closed
closes_beside selected made others also entries handed given happened rest closed was each received = record {
  more = more_beside selected made others also entries handed given happened was rest closed received;
  counted = counted_all selected made others also entries handed given happened was rest closed received;
  received = received_all selected made others also entries handed given happened was rest closed received;
  same = kept_of_both selected rest (own selected made others also entries handed given happened was rest closed received);
  alike = counted_alike selected made others also entries handed given happened was rest closed received;
}
