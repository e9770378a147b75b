-- What the whole gives as it is closed, beside what is given for its stand-ins.
use Rattle.std.proofs.Common.{◌≡◌, ℕ, ◌<◌, ◌≤◌, ◌^◌, inl, inr, Bool, true, false, Option, Some, None, List, [], ◌++◌, length, get_or, refl, sym, ap, subst, ◌∙◌, arith}
use Rattle.std.specs.Prelude.{if◌then◌else◌, slice_get}
use Rattle.std.proofs.lemmas.Bool.{cases_lt, false≢true}
use Rattle.std.proofs.lemmas.List.Elements.{filter_map-append}
use Rattle.std.proofs.lemmas.Option.{same_Some, slice_get_within, slice_get_past, slice_get-get_or}
use Rattle.flow_records.specs.Counted.{counted}
use Rattle.flow_records.specs.declared.record.FlowRecord.{FlowRecord}
use Rattle.flow_selection.specs.declared.selection.Selection.{Selection}
use Rattle.flow_selection.specs.Selection.{is_selected}
use Rattle.flow_core.specs.declared.counts.FlowCounts.{FlowCounts}
use Rattle.flow_core.specs.Counts.{no_counts}
use Rattle.lane.specs.Report.{requests_of}
use Rattle.consumer.specs.declared.given.Given.{Given}
use Rattle.consumer.specs.Given.{frame_of, frames_of, requests_given}
use Rattle.bonded_flows.specs.Parts.{FlowInput}
use Rattle.bonded_flows.specs.Table.{TableSetup, flow_setup, inputs_at}
use Rattle.receiver.specs.declared.closing.Closed.{Closed}
use Rattle.receiver.specs.declared.tally.LaneTally.{LaneTally}
use Rattle.receiver.specs.HandedIn.{HandedIn, answered_on, flow_inputs}
use Rattle.receiver.specs.Received.{GaveAllParts, IsReceived}
use Rattle.receiver.specs.Tallies.{IsTallyOf}
use Rattle.answers.specs.Beside.{AreCountedAlike}
use Rattle.answers.specs.ToldAlike.{AreGivenFor}
use Rattle.answers.proofs.Vectors.{vec_of}
use Rattle.answers.proofs.FlowsInTurn.{given_by_first, none_above, own_frames, first_have, as_many, have_there}
use Rattle.answers.proofs.OtherItems.{requests-same, count-same, refused-same}
use Rattle.answers.proofs.GivenBeside.{of_both, kept_of_both, frames_selected, frames_unselected, requests_of_both}
use Rattle.selected_receiver.specs.Whole.{IsWhole, IsSeenOf}
use Rattle.selected_receiver.proofs.InTheirPlace.{answers-for, inputs-for}
use Rattle.selected_receiver.proofs.Parts.{parts-closed}

module _ (selected : Selection) (check : List ℕ → Bool) (made : TableSetup) (others : List HandedIn) (also : List Given) (handed : List HandedIn) (given : List Given)
    (was : IsWhole (is_selected selected) check made others also handed given) where
  abbrev chosen : ℕ → Bool
  chosen = is_selected selected

  abbrev flow_count : ℕ
  flow_count = length made.records

  -- what came to flow k of this
  abbrev inputs_to : ℕ → List HandedIn → List FlowInput
  inputs_to k these = inputs_at k (flow_inputs flow_count these)

  same_given : AreGivenFor selected also given
  same_given = record { frames = λ k is. sym (was.of_selected k is); requests = λ channel. sym (was.requests channel) }

  -- ---- the close of the flows that aren't selected

  -- What the flow with this index gives more as it is closed, if there is one that isn't selected.
  record LastFrames (k : ℕ) : Type 0 where
    more : List (List ℕ)
    counts : FlowCounts
    gave : (flow_record : FlowRecord) → chosen k ≡ false → slice_get made.records k ≡ Some flow_record
        → GaveAllParts check (flow_setup made k flow_record) (inputs_to k handed) (frames_of k given ++ more) counts

  last_frames : (k : ℕ) → LastFrames k
  last_frames k = of_record (chosen k) refl (slice_get made.records k) refl where
    of_record : (b : Bool) → chosen k ≡ b → (known : Option FlowRecord) → slice_get made.records k ≡ known → LastFrames k
    of_record true is known here = record { more = []; counts = no_counts; gave = λ flow_record left there. absurd (false≢true (sym left ∙ is)) }
    of_record false left None none = record { more = []; counts = no_counts; gave = λ flow_record _ there. let wrong = sym none ∙ there in absurd cc }
    of_record false left (Some flow_record) here =
        let last = parts-closed check (flow_setup made k flow_record) (inputs_to k handed) (frames_of k given) (was.of_others k flow_record left here) in
        record {
          more = last.0;
          counts = last.1;
          gave = λ other _ there.
              subst (λ (r : FlowRecord). GaveAllParts check (flow_setup made k r) (inputs_to k handed) (frames_of k given ++ last.0) last.1)
              (same_Some flow_record other (sym here ∙ there)) last.2;
        }

  -- what they all give
  abbrev own : List Given
  own = given_by_first (λ k. (last_frames k).more) flow_count

  gave_with_all : (k : ℕ) (flow_record : FlowRecord) → chosen k ≡ false → slice_get made.records k ≡ Some flow_record
      → GaveAllParts check (flow_setup made k flow_record) (inputs_to k handed) (frames_of k (given ++ own)) (last_frames k).counts
  gave_with_all k flow_record left there =
      let last = last_frames k in
      subst (λ (frames : List (List ℕ)). GaveAllParts check (flow_setup made k flow_record) (inputs_to k handed) frames last.counts)
      (sym (filter_map-append (frame_of k) given own
      ∙ ap (λ (t : List (List ℕ)). frames_of k given ++ t)
      (own_frames (λ j. (last_frames j).more) flow_count k (slice_get_within made.records k flow_record there))))
      (last.gave flow_record left there)

  none_of_others : (k : ℕ) → flow_count ≤ k → frames_of k (given ++ own) ≡ []
  none_of_others k past =
      filter_map-append (frame_of k) given own ∙ ap (λ (t : List (List ℕ)). t ++ frames_of k own) (was.of_none k past)
      ∙ none_above (λ j. (last_frames j).more) flow_count k past

  -- ---- the close of all

  module _ (rest : List Given) (closed : Closed) (received : IsReceived check made others (also ++ rest) closed) where
    -- what the whole gives: of the selected flows and of none what is given for the stand-ins, and
    -- of the other flows what is theirs
    abbrev more_beside : List Given
    more_beside = of_both selected rest own

    frames_chosen : (k : ℕ) → chosen k ≡ true → frames_of k (given ++ more_beside) ≡ frames_of k (also ++ rest)
    frames_chosen = frames_selected selected given also rest own same_given

    frames_others : (k : ℕ) → chosen k ≡ false → frames_of k (given ++ more_beside) ≡ frames_of k (given ++ own)
    frames_others = frames_unselected selected given also rest own same_given

    -- ---- what is counted

    abbrev counts_at : ℕ → FlowCounts
    counts_at k = if chosen k then get_or closed.flows.items k no_counts else (last_frames k).counts

    counts_by : (k : ℕ) (b : Bool) → chosen k ≡ b → counts_at k ≡ (if b then get_or closed.flows.items k no_counts else (last_frames k).counts)
    counts_by k b is = ap (λ (c : Bool). if c then get_or closed.flows.items k no_counts else (last_frames k).counts) is

    abbrev all_counts : List FlowCounts
    all_counts = first_have counts_at flow_count

    small : length all_counts < 2 ^ 63
    small = let size = as_many counts_at flow_count in let count = received.flow_count in let few = closed.flows.small in omega arith

    abbrev counted_all : Closed
    counted_all = record { flows = vec_of all_counts small; lanes = closed.lanes }

    -- ---- what comes of all that was handed in

    gave_chosen : (k : ℕ) (flow_record : FlowRecord) → chosen k ≡ true → slice_get made.records k ≡ Some flow_record
        → GaveAllParts check (flow_setup made k flow_record) (inputs_to k handed) (frames_of k (given ++ more_beside)) (counts_at k)
    gave_chosen k flow_record is there =
        let setup = flow_setup made k flow_record in
        let within = slice_get_within made.records k flow_record there in
        let count = received.flow_count in
        let inside : k < length closed.flows.items = omega arith in
        let counts = get_or closed.flows.items k no_counts in
        let theirs = received.flows k flow_record counts there (slice_get-get_or closed.flows.items k no_counts inside) in
        subst (λ (c : FlowCounts). GaveAllParts check setup (inputs_to k handed) (frames_of k (given ++ more_beside)) c) (sym (counts_by k true is))
        (subst (λ (frames : List (List ℕ)). GaveAllParts check setup (inputs_to k handed) frames counts) (sym (frames_chosen k is))
        (subst (λ (inputs : List FlowInput). GaveAllParts check setup inputs (frames_of k (also ++ rest)) counts)
        (sym (inputs-for chosen k is flow_count others handed was.stand_ins)) theirs))

    gave_others : (k : ℕ) (flow_record : FlowRecord) → chosen k ≡ false → slice_get made.records k ≡ Some flow_record
        → GaveAllParts check (flow_setup made k flow_record) (inputs_to k handed) (frames_of k (given ++ more_beside)) (counts_at k)
    gave_others k flow_record left there =
        let setup = flow_setup made k flow_record in
        subst (λ (c : FlowCounts). GaveAllParts check setup (inputs_to k handed) (frames_of k (given ++ more_beside)) c) (sym (counts_by k false left))
        (subst (λ (frames : List (List ℕ)). GaveAllParts check setup (inputs_to k handed) frames (last_frames k).counts) (sym (frames_others k left))
        (gave_with_all k flow_record left there))

    flows_all : (k : ℕ) (flow_record : FlowRecord) (counts : FlowCounts) → slice_get made.records k ≡ Some flow_record → slice_get all_counts k ≡ Some counts
        → GaveAllParts check (flow_setup made k flow_record) (inputs_to k handed) (frames_of k (given ++ more_beside)) counts
    flows_all k flow_record counts there here =
        let within = slice_get_within made.records k flow_record there in
        subst (λ (c : FlowCounts). GaveAllParts check (flow_setup made k flow_record) (inputs_to k handed) (frames_of k (given ++ more_beside)) c)
        (same_Some (counts_at k) counts (sym (have_there counts_at flow_count k within) ∙ here)) (by_flag (chosen k) refl)
      where
        by_flag : (b : Bool) → chosen k ≡ b → GaveAllParts check (flow_setup made k flow_record) (inputs_to k handed) (frames_of k (given ++ more_beside)) (counts_at k)
        by_flag true is = gave_chosen k flow_record is there
        by_flag false left = gave_others k flow_record left there

    others_all : (k : ℕ) → flow_count ≤ k → frames_of k (given ++ more_beside) ≡ []
    others_all k past = by_flag (chosen k) refl where
      by_flag : (b : Bool) → chosen k ≡ b → frames_of k (given ++ more_beside) ≡ []
      by_flag true is = frames_chosen k is ∙ received.others k past
      by_flag false is = frames_others k is ∙ none_of_others k past

    requests_all : (channel : ℕ) → requests_given channel (given ++ more_beside) ≡ requests_of (answered_on channel handed)
    requests_all channel =
        requests_of_both selected given also rest own same_given channel ∙ received.requests channel
        ∙ sym (requests-same chosen (answered_on channel others) (answered_on channel handed) (answers-for chosen others handed was.stand_ins channel))

    tallies_all : (channel : ℕ) (tally : LaneTally) → slice_get closed.lanes.items channel ≡ Some tally → IsTallyOf (answered_on channel handed) tally
    tallies_all channel tally there =
        let ones = answered_on channel others in
        let now = answered_on channel handed in
        let answers = answers-for chosen others handed was.stand_ins channel in
        let is = received.tallies channel tally there in
        record {
          admitted = is.admitted ∙ sym (count-same chosen ones now answers);
          refused = is.refused ∙ ap (λ (numbers : List ℕ). counted (length numbers)) (sym (refused-same chosen ones now answers));
        }

    received_all : IsReceived check made handed (given ++ more_beside) counted_all
    received_all = record {
      answered = was.answered;
      flow_count = as_many counts_at flow_count;
      flows = flows_all;
      others = others_all;
      requests = requests_all;
      lane_count = received.lane_count;
      tallies = tallies_all;
    }

    -- ---- what is counted alike

    alike_at : (k : ℕ) → chosen k ≡ true → slice_get all_counts k ≡ slice_get closed.flows.items k
    alike_at k is = elim (cases_lt k flow_count) [
      | inl below ↦
          let count = received.flow_count in
          let inside : k < length closed.flows.items = omega arith in
          have_there counts_at flow_count k below ∙ ap (λ (c : FlowCounts). Some c) (counts_by k true is) ∙ sym (slice_get-get_or closed.flows.items k no_counts inside)
      | inr past ↦
          let size = as_many counts_at flow_count in
          let count = received.flow_count in
          slice_get_past all_counts k (omega arith) ∙ sym (slice_get_past closed.flows.items k (omega arith))
    ]

    counted_alike : AreCountedAlike selected closed counted_all
    counted_alike = record { count = as_many counts_at flow_count ∙ sym received.flow_count; flows = alike_at; lanes = refl }

    -- so the whole is closed beside its stand-ins
    pub whole-closed : (more : List Given) × (counted : Closed) × IsReceived check made handed (given ++ more) counted
        × IsSeenOf selected more rest × AreCountedAlike selected closed counted
    whole-closed = (more_beside, counted_all, received_all, kept_of_both selected rest own, counted_alike)
