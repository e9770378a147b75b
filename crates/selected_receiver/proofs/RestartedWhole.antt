-- How the whole grows beside its stand-ins as a flow begins anew.
use Rattle.std.proofs.Common.{◌≡◌, ℕ, ◌≤◌, inl, inr, Bool, true, false, Option, Some, None, List, [], ◌∷◌, ◌++◌, length, map, refl, sym, ap, subst, ◌∙◌, append-nil, arith}
use Rattle.std.specs.Prelude.{slice_get}
use Rattle.std.proofs.lemmas.Bool.{cases_eq, false≢true}
use Rattle.std.proofs.lemmas.Option.{same_Some, slice_get_within}
use Rattle.std.proofs.lemmas.List.Elements.{filter_map-append}
use Rattle.flow_records.specs.declared.record.FlowRecord.{FlowRecord}
use Rattle.flow_selection.specs.declared.selection.Selection.{Selection}
use Rattle.flow_selection.specs.Selection.{is_selected}
use Rattle.flow_core.specs.declared.counts.FlowCounts.{FlowCounts}
use Rattle.flow_core.specs.Counts.{no_counts}
use Rattle.lane.specs.Inputs.{AreAnswered}
use Rattle.lane.specs.declared.admitted.Request.{Request}
use Rattle.consumer.specs.declared.given.Given.{Given}
use Rattle.consumer.specs.declared.given.Given.TheVariants.{Frame}
use Rattle.consumer.specs.Given.{frames_of, request_on, requests_given}
use Rattle.bonded_flows.specs.ByRule.{GaveByRule}
use Rattle.bonded_flows.specs.Parts.{FlowInput, begins_anew, last_part, begun_at}
use Rattle.bonded_flows.specs.Table.{TableSetup, flow_setup, inputs_at}
use Rattle.bonded_flows.proofs.TableTurns.{frames-own, frames-others, no-request}
use Rattle.receiver.specs.HandedIn.{HandedIn, restarted, flow_inputs, lane_of, begun_with, came_since}
use Rattle.receiver.specs.Receiving.{GaveSince}
use Rattle.receiver.proofs.Pairs.{zip_push}
use Rattle.selected_receiver.specs.StandIns.{StandsInFor}
use Rattle.selected_receiver.specs.Given.{ClosesFlow}
use Rattle.selected_receiver.specs.Whole.{GivesParts, IsWhole}
use Rattle.selected_receiver.proofs.InTheirPlace.{inputs-for}
use Rattle.selected_receiver.proofs.MoreInputs.{inputs-here, inputs-elsewhere, answered-stays}
use Rattle.selected_receiver.proofs.Parts.{parts-anew}

-- frames alone bring no request
frames-request : (k channel : ℕ) (given : List Given) (frames : List (List ℕ)) → requests_given channel (given ++ map (Frame k) frames) ≡ requests_given channel given
frames-request k channel given frames =
    filter_map-append (request_on channel) given (map (Frame k) frames)
    ∙ ap (λ (t : List Request). requests_given channel given ++ t) (no-request k channel frames) ∙ append-nil (requests_given channel given)

module _ (selected : Selection) (check : List ℕ → Bool) (made : TableSetup) (others : List HandedIn) (also : List Given) (handed : List HandedIn) (given : List Given)
    (was : IsWhole (is_selected selected) check made others also handed given) (flow first : ℕ) (theirs : List (List ℕ)) (counts : FlowCounts)
    (none : (k : ℕ) → length made.records ≤ k → frames_of k (also ++ map (Frame flow) theirs) ≡ []) where
  abbrev chosen : ℕ → Bool
  chosen = is_selected selected

  abbrev flow_count : ℕ
  flow_count = length made.records

  -- what came to flow k of this
  abbrev inputs_to : ℕ → List HandedIn → List FlowInput
  inputs_to k these = inputs_at k (flow_inputs flow_count these)

  abbrev after : List HandedIn
  after = handed ++ restarted flow first ∷ []

  -- ---- what the flow gives

  -- What the flow gives more.
  record GivesAnew (frames : List (List ℕ)) : Type 0 where
    same : chosen flow ≡ true → frames ≡ theirs
    gives : (flow_record : FlowRecord) → chosen flow ≡ false → slice_get made.records flow ≡ Some flow_record
        → GivesParts check (flow_setup made flow flow_record) (inputs_to flow after) (frames_of flow given ++ frames)
    none_past : chosen flow ≡ false → flow_count ≤ flow → frames ≡ []

  -- with it the whole has given all that it has to give
  module _ (frames : List (List ℕ)) (anew : GivesAnew frames) where
    abbrev now : List Given
    now = given ++ map (Frame flow) frames

    here_same : chosen flow ≡ true → frames_of flow now ≡ frames_of flow (also ++ map (Frame flow) theirs)
    here_same is =
        frames-own flow [] [] given frames ∙ ap (λ (t : List (List ℕ)). t ++ frames) (was.of_selected flow is)
        ∙ ap (λ (t : List (List ℕ)). frames_of flow also ++ t) (anew.same is) ∙ sym (frames-own flow [] [] also theirs)

    selected_same : (k : ℕ) → chosen k ≡ true → frames_of k now ≡ frames_of k (also ++ map (Frame flow) theirs)
    selected_same k is = elim (cases_eq flow k) [
      | inl same ↦
          subst (λ (j : ℕ). frames_of j now ≡ frames_of j (also ++ map (Frame flow) theirs)) same (here_same (ap chosen same ∙ is))
      | inr apart ↦ frames-others flow [] [] given frames k apart ∙ was.of_selected k is ∙ sym (frames-others flow [] [] also theirs k apart)
    ]

    others_give : (k : ℕ) (flow_record : FlowRecord) → chosen k ≡ false → slice_get made.records k ≡ Some flow_record
        → GivesParts check (flow_setup made k flow_record) (inputs_to k after) (frames_of k now)
    others_give k flow_record is there = elim (cases_eq flow k) [
      | inl same ↦
          subst (λ (j : ℕ). chosen j ≡ false → slice_get made.records j ≡ Some flow_record → GivesParts check (flow_setup made j flow_record) (inputs_to j after) (frames_of j now)) same
          (λ left here.
          subst (λ (f : List (List ℕ)). GivesParts check (flow_setup made flow flow_record) (inputs_to flow after) f) (sym (frames-own flow [] [] given frames))
          (anew.gives flow_record left here))
          is there
      | inr apart ↦
          subst (λ (f : List (List ℕ)). GivesParts check (flow_setup made k flow_record) (inputs_to k after) f) (sym (frames-others flow [] [] given frames k apart))
          (subst (λ (inputs : List FlowInput). GivesParts check (flow_setup made k flow_record) inputs (frames_of k given))
          (sym (inputs-elsewhere made handed (restarted flow first) flow (begins_anew first) refl k apart)) (was.of_others k flow_record is there))
    ]

    none_given : (k : ℕ) → flow_count ≤ k → frames_of k now ≡ []
    none_given k past = by_flag (chosen k) refl where
      by_flag : (b : Bool) → chosen k ≡ b → frames_of k now ≡ []
      by_flag true is = selected_same k is ∙ none k past
      by_flag false is = elim (cases_eq flow k) [
        | inl same ↦
            subst (λ (j : ℕ). chosen j ≡ false → flow_count ≤ j → frames_of j given ≡ [] → frames_of j now ≡ []) same
            (λ left over nothing.
            frames-own flow [] [] given frames ∙ ap (λ (t : List (List ℕ)). t ++ frames) nothing ∙ anew.none_past left over)
            is past (was.of_none k past)
        | inr apart ↦ frames-others flow [] [] given frames k apart ∙ was.of_none k past
      ]

    begun_anew : IsWhole chosen check made (others ++ restarted flow first ∷ []) (also ++ map (Frame flow) theirs) after now
    begun_anew = record {
      stand_ins = zip_push (StandsInFor chosen) others handed (restarted flow first) (restarted flow first) was.stand_ins refl;
      answered = λ channel within.
          subst (AreAnswered (lane_of made channel)) (sym (answered-stays made handed (restarted flow first) (λ on. refl) channel)) (was.answered channel within);
      requests = λ channel.
          frames-request flow channel given frames ∙ was.requests channel ∙ sym (frames-request flow channel also theirs);
      of_selected = selected_same;
      of_others = others_give;
      of_none = none_given;
    }

  -- ---- the flow is closed

  -- what came to a selected flow is the same on both sides, and so is what it gave
  closes_selected : chosen flow ≡ true → ClosesFlow check made flow others also theirs counts → ClosesFlow check made flow handed given theirs counts
  closes_selected is closes flow_record there =
      let setup = flow_setup made flow flow_record in
      let P : List FlowInput → List (List ℕ) → Type 0 = λ inputs frames.
      GaveSince (λ own. GaveByRule check (begun_at setup (last_part setup inputs).first) (last_part setup inputs).comings (own ++ theirs) counts) frames in
      subst (λ (inputs : List FlowInput). P inputs (frames_of flow given)) (sym (inputs-for chosen flow is flow_count others handed was.stand_ins))
      (subst (λ (frames : List (List ℕ)). P (inputs_to flow others) frames) (sym (was.of_selected flow is)) (closes flow_record there))

  -- What the whole gives as the flow begins anew, and what was counted of the flow.
  abbrev GrownAnew : Type 0
  GrownAnew =
      (frames : List (List ℕ)) × (counted : FlowCounts)
      × IsWhole (is_selected selected) check made (others ++ restarted flow first ∷ []) (also ++ map (Frame flow) theirs) (handed ++ restarted flow first ∷ []) (given ++ map (Frame flow) frames)
      × ClosesFlow check made flow handed given frames counted × (is_selected selected flow ≡ true → (frames ≡ theirs) × (counted ≡ counts))

  -- a selected flow gives the same
  anew_selected : chosen flow ≡ true → ClosesFlow check made flow others also theirs counts → GrownAnew
  anew_selected is closes = (
    theirs,
    counts,
    begun_anew theirs (record {
      same = λ _. refl;
      gives = λ flow_record left here. absurd (false≢true (sym left ∙ is));
      none_past = λ left past. absurd (false≢true (sym left ∙ is));
    }),
    closes_selected is closes,
    λ _. (refl, refl),
  )

  -- another flow gives what is left of it, if there is one
  module _ (left : chosen flow ≡ false) where
    anew_of_none : slice_get made.records flow ≡ None → GrownAnew
    anew_of_none nothing = (
      [],
      no_counts,
      begun_anew [] (record {
        same = λ is. absurd (false≢true (sym left ∙ is));
        gives = λ flow_record _ here. let wrong = sym nothing ∙ here in absurd cc;
        none_past = λ _ past. refl;
      }),
      λ flow_record here. let wrong = sym nothing ∙ here in absurd cc,
      λ is. absurd (false≢true (sym left ∙ is)),
    )

    anew_of_one : (flow_record : FlowRecord) → slice_get made.records flow ≡ Some flow_record → GrownAnew
    anew_of_one flow_record here =
        let before = was.of_others flow flow_record left here in
        let its = parts-anew check (flow_setup made flow flow_record) (inputs_to flow handed) (frames_of flow given) before first in
        let gives = subst (λ (inputs : List FlowInput). GivesParts check (flow_setup made flow flow_record) inputs (frames_of flow given ++ its.0))
        (sym (inputs-here made handed (restarted flow first) flow (begins_anew first) refl)) its.3 in (
          its.0,
          its.1,
          begun_anew its.0 (record {
            same = λ is. absurd (false≢true (sym left ∙ is));
            gives = λ other _ at.
                subst (λ (r : FlowRecord). GivesParts check (flow_setup made flow r) (inputs_to flow after) (frames_of flow given ++ its.0))
                (same_Some flow_record other (sym here ∙ at)) gives;
            none_past = λ _ past. let within = slice_get_within made.records flow flow_record here in absurd (omega arith);
          }),
          λ other at.
              subst (λ (r : FlowRecord). GaveSince (λ own. GaveByRule check (begun_with made flow r (flow_inputs flow_count handed)) (came_since made flow r (flow_inputs flow_count handed)) (own ++ its.0) its.1)
              (frames_of flow given))
              (same_Some flow_record other (sym here ∙ at))
              (record { earlier = before.earlier; own = before.own; all = before.all; is_so = its.2 }),
          λ is. absurd (false≢true (sym left ∙ is)),
        )

  -- a flow begins anew, and the same flow of the stand-ins did: of a selected flow the same is
  -- given and counted
  pub whole-restart : ClosesFlow check made flow others also theirs counts
      → (frames : List (List ℕ)) × (counted : FlowCounts)
      × IsWhole (is_selected selected) check made (others ++ restarted flow first ∷ []) (also ++ map (Frame flow) theirs) (handed ++ restarted flow first ∷ []) (given ++ map (Frame flow) frames)
      × ClosesFlow check made flow handed given frames counted × (is_selected selected flow ≡ true → (frames ≡ theirs) × (counted ≡ counts))
  whole-restart closes = by_flag (chosen flow) refl where
    by_record : chosen flow ≡ false → (known : Option FlowRecord) → slice_get made.records flow ≡ known → GrownAnew
    by_record left None nothing = anew_of_none left nothing
    by_record left (Some flow_record) here = anew_of_one left flow_record here

    by_flag : (b : Bool) → chosen flow ≡ b → GrownAnew
    by_flag true is = anew_selected is closes
    by_flag false left = by_record left (slice_get made.records flow) refl
