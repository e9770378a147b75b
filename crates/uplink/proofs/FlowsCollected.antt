-- What the flows have given, each at its place.
use Rattle.std.proofs.Common.{◌≡◌, ℕ, ◌<◌, Some, List, [], ◌∷◌, ◌++◌, map, length, slice_get, slice_index_or, Vec, refl, ap, sym, subst, ◌∙◌, ⊎_elim}
use Rattle.std.proofs.lemmas.List.{append-nil, append_assoc, length-map, map-append, map-id}
use Rattle.std.proofs.lemmas.Option.{slice_get-get_or, same_Some}
use Rattle.std.specs.Global.{Global}
use Rattle.docsis_wire.specs.declared.buffer.Bytes.{Bytes}
use Rattle.flow_core.specs.declared.counts.FlowCounts.{FlowCounts}
use Rattle.flow_records.specs.declared.record.FlowRecord.{FlowRecord}
use Rattle.receiver.specs.declared.outcome.FlowOutcome.{FlowOutcome}
use Rattle.uplink.specs.Inside.Collected.{AreFlowsOf}
use Rattle.workers.proofs.AlikeLists.{alike_at}
use Rattle.lane.proofs.LaneTaking.{from-pushed}

-- the frames that a flow gave
abbrev pub frames_of : FlowOutcome → Vec Bytes Global
frames_of flow = flow.frames

module _ (records : List FlowRecord) (frames : List (Vec Bytes Global)) (counts : List FlowCounts) where
  -- what so many flows gave, and these frames are still to come
  pub record AreFlowsSoFar (flows : List FlowOutcome) (rest : List (Vec Bytes Global)) : Type 0 where
    pub frames_are : map frames_of flows ++ rest ≡ frames
    pub each : (k : ℕ) (flow : FlowOutcome) (flow_record : FlowRecord) (counted : FlowCounts) → slice_get flows k ≡ Some flow
        → slice_get records k ≡ Some flow_record → slice_get counts k ≡ Some counted
        → (flow.sfid ≡ flow_record.sfid) × (flow.counts ≡ counted)

  -- what one flow more gave
  one_more_flow : (flows : List FlowOutcome) (flow : FlowOutcome) (rest : List (Vec Bytes Global)) (of : FlowRecord) (counts_of : FlowCounts)
      → AreFlowsSoFar flows (flow.frames ∷ rest) → slice_get records (length flows) ≡ Some of → slice_get counts (length flows) ≡ Some counts_of
      → flow.sfid ≡ of.sfid → flow.counts ≡ counts_of → AreFlowsSoFar (flows ++ flow ∷ []) rest
  one_more_flow flows flow rest of counts_of so_far of_record of_counts sfid counted = record {
    frames_are =
        ap (λ all. all ++ rest) (map-append frames_of flows (flow ∷ []))
        ∙ append_assoc (map frames_of flows) (flow.frames ∷ []) rest
        ∙ so_far.frames_are;
    each = λ k one r c at at_records at_counts.
        ⊎_elim
        (λ before. so_far.each k one r c before at_records at_counts)
        (λ last.
        let same_record : of ≡ r = same_Some of r (sym of_record ∙ ap (slice_get records) (sym last.0) ∙ at_records) in
        let same_counts : counts_of ≡ c = same_Some counts_of c (sym of_counts ∙ ap (slice_get counts) (sym last.0) ∙ at_counts) in (
          ap (λ (f : FlowOutcome). f.sfid) last.1 ∙ sfid ∙ ap (λ (r : FlowRecord). r.sfid) same_record,
          ap (λ (f : FlowOutcome). f.counts) last.1 ∙ counted ∙ same_counts,
        ))
        (from-pushed flows flow k one at);
  }

  -- it is made of the record and the counts at its place
  pub next_flow : (flows flows' : List FlowOutcome) (k : ℕ) (none : FlowRecord) (none' : FlowCounts) (given : Vec Bytes Global)
      → (rest : List (Vec Bytes Global)) → AreFlowsSoFar flows (given ∷ rest) → k ≡ length flows → k < length records → k < length counts
      → flows' ≡ flows ++ record { sfid = (slice_index_or records k none).sfid; frames = given; counts = slice_index_or counts k none' } ∷ []
      → AreFlowsSoFar flows' rest
  next_flow flows flows' k none none' given rest so_far is within within' pushed =
      let of = slice_index_or records k none in
      let counts_of = slice_index_or counts k none' in
      subst (λ (all : List FlowOutcome). AreFlowsSoFar all rest) (sym pushed)
      (one_more_flow flows (record { sfid = of.sfid; frames = given; counts = counts_of }) rest of counts_of so_far
      (ap (slice_get records) (sym is) ∙ slice_get-get_or records k none within)
      (ap (slice_get counts) (sym is) ∙ slice_get-get_or counts k none' within') refl refl)

  -- and what all of them gave
  pub all_flows : (flows : List FlowOutcome) → AreFlowsSoFar flows [] → length frames ≡ length records → AreFlowsOf records frames counts flows
  all_flows flows so_far count =
      let itself : Vec Bytes Global → Vec Bytes Global = λ one. one in
      let are : map frames_of flows ≡ frames = sym (append-nil (map frames_of flows)) ∙ so_far.frames_are in
      record {
        count = sym (length-map flows frames_of) ∙ ap length are ∙ count;
        each = λ k flow r given counted at at_records at_frames at_counts.
            let both = so_far.each k flow r counted at at_records at_counts in
            (both.0, alike_at frames_of itself flows frames k flow given (are ∙ sym (map-id frames)) at at_frames, both.1);
      }
