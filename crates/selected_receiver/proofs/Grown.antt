-- How the whole grows beside its stand-ins, with one thing more that is handed in.
use Rattle.std.proofs.Common.{◌≡◌, ◌≢◌, ℕ, ◌<◌, ◌≤◌, inl, inr, Bool, true, false, Some, None, Ok, Err, List, [], ◌∷◌, ◌++◌, length, map, refl, sym, ap, subst, ◌∙◌, arith, append-nil, ltb-true}
use Rattle.std.specs.Prelude.{◌&&◌, nat_lt, if◌then◌else◌, slice_get}
use Rattle.std.specs.Option.{option_map}
use Rattle.std.specs.List.{AllZip}
use Rattle.std.proofs.lemmas.Bool.{cases_eq, false≢true}
use Rattle.std.proofs.lemmas.Option.{same_Some, slice_get_within}
use Rattle.docsis_wire.proofs.StreamPlaces.{element_at, slice_get-at}
use Rattle.flow_records.specs.declared.record.FlowRecord.{FlowRecord}
use Rattle.flow_selection.specs.declared.selection.Selection.{Selection}
use Rattle.flow_selection.specs.Selection.{is_selected}
use Rattle.lane.specs.Inputs.{Answer, AnsweredInput, HasBytes, IsAnswer, AreAnswered}
use Rattle.lane.specs.Report.{admitted_by}
use Rattle.loss_rule.specs.Rule.{Coming, on_channel, handed_in, own_event}
use Rattle.consumer.specs.declared.given.Given.{Given}
use Rattle.consumer.specs.declared.given.Given.TheVariants.{Frame}
use Rattle.consumer.specs.Given.{frames_of}
use Rattle.bonded_flows.specs.declared.decision.FlowDecision.{FlowDecision}
use Rattle.bonded_flows.specs.declared.decision.FlowDecision.TheVariants.{Gap, GapTo, SkipTo}
use Rattle.bonded_flows.specs.ByRule.{decision_event, is_in_range}
use Rattle.bonded_flows.specs.Parts.{FlowInput, comes}
use Rattle.bonded_flows.specs.Table.{TableSetup, flow_setup, inputs_at}
use Rattle.bonded_flows.proofs.TableTurns.{of_flow, frames-own, frames-others}
use Rattle.receiver.specs.HandedIn.{HandedIn, came, decided, answered_on, arrives_on, decides_of, flow_input_of, flow_inputs, lane_of}
use Rattle.receiver.proofs.AnsweredInputs.{admitted-flow}
use Rattle.receiver.proofs.Pairs.{zip_push}
use Rattle.answers.specs.Bytes.{AreBytes, Brings}
use Rattle.answers.specs.Beside.{AnswersInPlaceOf}
use Rattle.answers.specs.ToldAlike.{AreGivenFor}
use Rattle.answers.proofs.AdmittedPayloads.{admitted-payload}
use Rattle.answers.proofs.GivenBeside.{of_both, kept_of_both, frames_selected, frames_unselected, requests_of_both}
use Rattle.selected_receiver.specs.StandIns.{AreHeadedAlike, StandsInFor}
use Rattle.selected_receiver.specs.Whole.{GivesParts, IsWhole, IsSeenOf}
use Rattle.selected_receiver.proofs.Parts.{parts-nothing, parts-more}
use Rattle.selected_receiver.proofs.MoreInputs.{inputs-stay, inputs-here, inputs-elsewhere, answered-stays, all-here, answered-with}

module _ (selected : Selection) (check : List ℕ → Bool) (made : TableSetup) where
  abbrev chosen : ℕ → Bool
  chosen = is_selected selected

  abbrev flow_count : ℕ
  flow_count = length made.records

  -- what came to flow k of this
  abbrev inputs_to : ℕ → List HandedIn → List FlowInput
  inputs_to k handed = inputs_at k (flow_inputs flow_count handed)

  -- nothing, where nothing was handed in
  pub whole-nothing : IsWhole (is_selected selected) check made [] [] [] []
  whole-nothing = record {
    stand_ins = tt;
    answered = λ channel within k one there. absurd cc;
    requests = λ channel. refl;
    of_selected = λ k is. refl;
    of_others = λ k flow_record is there. parts-nothing check (flow_setup made k flow_record);
    of_none = λ k past. refl;
  }

  module _ (others : List HandedIn) (also : List Given) (handed : List HandedIn) (given : List Given) (was : IsWhole (is_selected selected) check made others also handed given) where
    same_given : AreGivenFor selected also given
    same_given = record { frames = λ k is. sym (was.of_selected k is); requests = λ channel. sym (was.requests channel) }

    -- ---- what is given of the flows that aren't selected

    -- What they give in all, where this is all that is handed in.
    record GivesElsewhere (after : List HandedIn) : Type 0 where
      own : List Given
      flows : (k : ℕ) (flow_record : FlowRecord) → chosen k ≡ false → slice_get made.records k ≡ Some flow_record
          → GivesParts check (flow_setup made k flow_record) (inputs_to k after) (frames_of k (given ++ own))
      none : (k : ℕ) → flow_count ≤ k → frames_of k (given ++ own) ≡ []

    -- nothing more, where nothing comes to them
    gives_none : (after : List HandedIn) → ((k : ℕ) → chosen k ≡ false → inputs_to k after ≡ inputs_to k handed) → GivesElsewhere after
    gives_none after same = record {
      own = [];
      flows = λ k flow_record is there.
          let setup = flow_setup made k flow_record in
          subst (λ (frames : List (List ℕ)). GivesParts check setup (inputs_to k after) frames) (ap (frames_of k) (sym (append-nil given)))
          (subst (λ (inputs : List FlowInput). GivesParts check setup inputs (frames_of k given)) (sym (same k is)) (was.of_others k flow_record is there));
      none = λ k past. ap (frames_of k) (append-nil given) ∙ was.of_none k past;
    }

    module _ (one : HandedIn) where
      -- one thing more that comes to no flow
      gives_to_none : flow_input_of flow_count one ≡ None → GivesElsewhere (handed ++ one ∷ [])
      gives_to_none none = gives_none (handed ++ one ∷ []) (λ k is. inputs-stay made handed one none k)

      -- or to one of them
      module _ (k : ℕ) (flow_record : FlowRecord) (here : slice_get made.records k ≡ Some flow_record) (coming : Coming)
          (is : flow_input_of flow_count one ≡ Some (of_flow k (comes coming))) (brings : Brings AreBytes (own_event coming)) where
        elsewhere : (other : ℕ) → k ≢ other → inputs_to other (handed ++ one ∷ []) ≡ inputs_to other handed
        elsewhere = inputs-elsewhere made handed one k (comes coming) is

        gives_to_own : chosen k ≡ false → GivesElsewhere (handed ++ one ∷ [])
        gives_to_own left =
            let grown = parts-more check (flow_setup made k flow_record) (inputs_to k handed) (frames_of k given) (was.of_others k flow_record left here) coming brings in
            let own = map (Frame k) grown.0 in
            let after = handed ++ one ∷ [] in
            let of_own : GivesParts check (flow_setup made k flow_record) (inputs_to k after) (frames_of k (given ++ own)) =
            subst (λ (frames : List (List ℕ)). GivesParts check (flow_setup made k flow_record) (inputs_to k after) frames) (sym (frames-own k [] [] given grown.0))
            (subst (λ (inputs : List FlowInput). GivesParts check (flow_setup made k flow_record) inputs (frames_of k given ++ grown.0))
            (sym (inputs-here made handed one k (comes coming) is)) grown.1) in
            record {
              own = own;
              flows = λ other another not there.
                  elim (cases_eq k other) [
                    | inl same ↦
                        subst (λ (j : ℕ). (r : FlowRecord) → slice_get made.records j ≡ Some r → GivesParts check (flow_setup made j r) (inputs_to j after) (frames_of j (given ++ own))) same
                        (λ r at.
                        subst (λ (r : FlowRecord). GivesParts check (flow_setup made k r) (inputs_to k after) (frames_of k (given ++ own)))
                        (same_Some flow_record r (sym here ∙ at)) of_own)
                        another there
                    | inr apart ↦
                        subst (λ (frames : List (List ℕ)). GivesParts check (flow_setup made other another) (inputs_to other after) frames)
                        (sym (frames-others k [] [] given grown.0 other apart))
                        (subst (λ (inputs : List FlowInput). GivesParts check (flow_setup made other another) inputs (frames_of other given))
                        (sym (elsewhere other apart)) (was.of_others other another not there))
                  ];
              none = λ other past.
                  let within = slice_get_within made.records k flow_record here in
                  frames-others k [] [] given grown.0 other (λ same. omega arith) ∙ was.of_none other past;
            }

        gives_to_one : GivesElsewhere (handed ++ one ∷ [])
        gives_to_one = by_flag (chosen k) refl where
          by_flag : (b : Bool) → chosen k ≡ b → GivesElsewhere (handed ++ one ∷ [])
          by_flag true is_chosen =
              gives_none (handed ++ one ∷ [])
              (λ other left. elsewhere other (λ same. false≢true (sym left ∙ ap chosen (sym same) ∙ is_chosen)))
          by_flag false left = gives_to_own left

    module _ (also_more : List Given) (none : (k : ℕ) → length made.records ≤ k → frames_of k (also ++ also_more) ≡ []) where
      -- ---- with what was given more for the stand-ins

      -- The whole with what is handed in and given besides: of the selected flows and of none what
      -- was given for the stand-ins, and of the other flows what is theirs.
      grown : (others' handed' : List HandedIn) → AllZip (StandsInFor chosen) others' handed'
          → ((channel : ℕ) → channel < made.channels → AreAnswered (lane_of made channel) (answered_on channel handed'))
          → GivesElsewhere handed' → (more : List Given) × IsWhole chosen check made others' (also ++ also_more) handed' (given ++ more) × IsSeenOf selected more also_more
      grown others' handed' stand_ins answered elsewhere = (
        of_both selected also_more elsewhere.own,
        record {
          stand_ins = stand_ins;
          answered = answered;
          requests = requests_of_both selected given also also_more elsewhere.own same_given;
          of_selected = frames_selected selected given also also_more elsewhere.own same_given;
          of_others = λ k flow_record is there.
              subst (λ (frames : List (List ℕ)). GivesParts check (flow_setup made k flow_record) (inputs_to k handed') frames)
              (sym (frames_unselected selected given also also_more elsewhere.own same_given k is)) (elsewhere.flows k flow_record is there);
          of_none = λ k past. none_given k past (chosen k) refl;
        },
        kept_of_both selected also_more elsewhere.own,
      )
        where
          none_given : (k : ℕ) → flow_count ≤ k → (b : Bool) → chosen k ≡ b → frames_of k (given ++ of_both selected also_more elsewhere.own) ≡ []
          none_given k past true is = frames_selected selected given also also_more elsewhere.own same_given k is ∙ none k past
          none_given k past false is = frames_unselected selected given also also_more elsewhere.own same_given k is ∙ elsewhere.none k past

      -- nothing is handed in besides
      pub whole-more : (more : List Given) × IsWhole (is_selected selected) check made others (also ++ also_more) handed (given ++ more) × IsSeenOf selected more also_more
      whole-more = grown others handed was.stand_ins was.answered (gives_none handed (λ k is. refl))

      -- one thing more stands in for another
      grows : (one other : HandedIn) → StandsInFor chosen one other
          → ((channel : ℕ) → channel < made.channels → AreAnswered (lane_of made channel) (answered_on channel (handed ++ other ∷ [])))
          → GivesElsewhere (handed ++ other ∷ [])
          → (more : List Given) × IsWhole chosen check made (others ++ one ∷ []) (also ++ also_more) (handed ++ other ∷ []) (given ++ more) × IsSeenOf selected more also_more
      grows one other stands answered elsewhere =
          grown (others ++ one ∷ []) (handed ++ other ∷ []) (zip_push (StandsInFor chosen) others handed one other was.stand_ins stands) answered elsewhere

      -- ---- an input

      -- an input is handed in, and another stands in for it
      pub whole-input : (channel : ℕ) → channel < made.channels → (one other : AnsweredInput) → AnswersInPlaceOf (is_selected selected) one other
          → AreHeadedAlike (admitted_by one.answer) (admitted_by other.answer)
          → IsAnswer (lane_of made channel) (answered_on channel handed) other.input other.answer → HasBytes other.input
          → (more : List Given)
          × IsWhole (is_selected selected) check made (others ++ came channel one ∷ []) (also ++ also_more) (handed ++ came channel other ∷ []) (given ++ more)
          × IsSeenOf selected more also_more
      whole-input channel within one other in_place headed is bytes =
          grows (came channel one) (came channel other) (refl, in_place, headed) (answered-with made handed channel other was.answered within is)
          (by_answer other.answer refl)
        where
          by_answer : (answer : Answer) → other.answer ≡ answer → GivesElsewhere (handed ++ came channel other ∷ [])
          by_answer (Ok None) answers = gives_to_none (came channel other) (ap (λ (a : Answer). option_map (arrives_on channel) (admitted_by a)) answers)
          by_answer (Err refusal) answers = gives_to_none (came channel other) (ap (λ (a : Answer). option_map (arrives_on channel) (admitted_by a)) answers)
          by_answer (Ok (Some admitted)) answers =
              let setup = lane_of made channel in
              let taken = answered_on channel handed in
              let exists = admitted-flow setup taken other.input admitted (subst (IsAnswer setup taken other.input) answers is) in
              let found = element_at made.records admitted.flow exists in
              let all = all-here made handed channel other was.answered within is in
              let payload = admitted-payload setup (taken ++ other ∷ []) (length taken) other.input other.answer admitted all
              (all (length taken) other (slice_get-at taken other [])) bytes (ap (λ (a : Answer). admitted_by a) answers) in
              gives_to_one (came channel other) admitted.flow found.0 found.1 (on_channel channel admitted.segment)
              (ap (λ (a : Answer). option_map (arrives_on channel) (admitted_by a)) answers) payload.bytes

      -- ---- a decision

      -- the same decision about a flow is handed in
      pub whole-decision : (flow : ℕ) (decision : FlowDecision)
          → (more : List Given)
          × IsWhole (is_selected selected) check made (others ++ decided flow decision ∷ []) (also ++ also_more) (handed ++ decided flow decision ∷ []) (given ++ more)
          × IsSeenOf selected more also_more
      whole-decision flow decision =
          grows (decided flow decision) (decided flow decision) refl
          (λ channel within.
          subst (AreAnswered (lane_of made channel)) (sym (answered-stays made handed (decided flow decision) (λ on. refl) channel)) (was.answered channel within))
          (by_flag (nat_lt flow flow_count && is_in_range decision) refl)
        where
          within_of : (a b : Bool) → (a && b) ≡ true → a ≡ true
          within_of true b is = refl
          within_of false b is = is

          no_segment : (d : FlowDecision) → Brings AreBytes (decision_event d)
          no_segment Gap = tt
          no_segment (GapTo number) = tt
          no_segment (SkipTo number) = tt

          by_flag : (names : Bool) → (nat_lt flow flow_count && is_in_range decision) ≡ names → GivesElsewhere (handed ++ decided flow decision ∷ [])
          by_flag false out = gives_to_none (decided flow decision) (ap (λ (b : Bool). if b then Some (decides_of flow decision) else None) out)
          by_flag true names =
              let found = element_at made.records flow (ltb-true flow flow_count (within_of (nat_lt flow flow_count) (is_in_range decision) names)) in
              gives_to_one (decided flow decision) flow found.0 found.1 (handed_in (decision_event decision))
              (ap (λ (b : Bool). if b then Some (decides_of flow decision) else None) names) (no_segment decision)
