-- What is told of stand-ins is told of the whole, of the selected flows and of none, in the same
-- order.
use Rattle.std.proofs.Common.{◌≡◌, ℕ, ◌≤◌, Bool, true, false, Option, Some, All, List, [], ◌∷◌, ◌++◌, length, map, filter, refl, sym, ap, subst, ◌∙◌}
use Rattle.std.specs.Prelude.{if◌then◌else◌, slice_get}
use Rattle.std.specs.List.{AllByRecursion, AllZip, cons_option}
use Rattle.std.proofs.lemmas.List.Elements.{All-pop, filter-append, filter_map-append}
use Rattle.ccf.proofs.TwoSplits.{AllByRecursion-front, AllByRecursion-behind}
use Rattle.flow_records.specs.declared.record.FlowRecord.{FlowRecord}
use Rattle.flow_selection.specs.declared.selection.Selection.{Selection}
use Rattle.flow_selection.specs.Selection.{is_selected}
use Rattle.lane.specs.Inputs.{AnsweredInput}
use Rattle.lane.specs.Report.{requests_of}
use Rattle.lane.specs.Rows.{CanBeOpenedWithin}
use Rattle.loss_rule.specs.Rule.{Coming}
use Rattle.consumer.specs.declared.given.Given.{Given}
use Rattle.consumer.specs.Given.{frames_of, requests_given}
use Rattle.bonded_flows.specs.ByRule.{HasGivenByRule}
use Rattle.bonded_flows.specs.Parts.{FlowInput, last_part}
use Rattle.bonded_flows.specs.Table.{TableSetup, flow_setup}
use Rattle.receiver.specs.Entries as entry
use Rattle.receiver.specs.Entries.{Entry}
use Rattle.receiver.specs.HandedIn.{HandedIn, came, decided, restarted, answered_on, lane_of}
use Rattle.receiver.specs.Replaying.{entry_of}
use Rattle.receiver.proofs.Pairs.{zip_push, zip_weaker}
use Rattle.texts.specs.declared.follow.happening.Happening.{Happening}
use Rattle.texts.specs.declared.follow.happening.Happening.TheVariants.{Gave}
use Rattle.texts.specs.AnyHeader.{any_header}
use Rattle.texts.specs.FollowedReport.{came_to}
use Rattle.texts.specs.Happened.{IsOfTrace, IsGivenSoFar, Tells, HasHappened, nothing, one_more}
use Rattle.texts.proofs.OneHappening.{its_answer, GivesOneSoFar}
use Rattle.answers.specs.Room.{EntryHasBytes}
use Rattle.answers.specs.ToldAlike.{EntryStandsIn, is_told_for}
use Rattle.answers.specs.Beside.{CountsAs, AnswersInPlaceOf, InPlace, GivesOfBytes, HappenedSoFar, IsBeside, is_told_if_given, GrowsBeside}
use Rattle.answers.proofs.OtherItems.{requests-same}
use Rattle.answers.proofs.SomeHappening.{nothing_so_far, OneMore, happened_with, takes_one, takes_decision}
use Rattle.answers.proofs.StandIns.{some_answer}
use Rattle.answers.proofs.HandedInPlace.{answers_for, inputs_for, same_name}
use Rattle.answers.proofs.ToldElsewhere.{one_alike}
use Rattle.answers.proofs.GivenBeside.{of_both, kept_of_both, frames_selected, frames_unselected, requests_of_both}

-- the last of a list that goes with another
zip_last : {X Y : Type 0} (R : X → Y → Type 0) (xs : List X) (x : X) (ys : List Y) → AllZip R (xs ++ x ∷ []) ys
    → (front : List Y) × (y : Y) × (ys ≡ front ++ y ∷ []) × AllZip R xs front × R x y
zip_last R [] x [] all = absurd all
zip_last R [] x (y ∷ []) all = ([], y, refl, tt, all.0)
zip_last R [] x (y ∷ z ∷ ys) all = absurd all.1
zip_last R (a ∷ xs) x [] all = absurd all
zip_last {X} {Y} R (a ∷ xs) x (b ∷ ys) all =
    let rest = zip_last R xs x ys all.1 in (b ∷ rest.0, rest.1, ap (λ (t : List Y). b ∷ t) rest.2, (all.0, rest.3), rest.4)

module _ (selected : Selection) where
  -- what is told of what is given
  one_gave : (given : Given) (more : List Given) → filter (is_told_for selected) (map Gave more) ≡ map Gave (filter (is_told_if_given selected) more) → (b : Bool)
      → (if b then Gave given ∷ filter (is_told_for selected) (map Gave more) else filter (is_told_for selected) (map Gave more))
      ≡ map Gave (if b then given ∷ filter (is_told_if_given selected) more else filter (is_told_if_given selected) more)
  one_gave given more rest true = ap (λ (t : List Happening). Gave given ∷ t) rest
  one_gave given more rest false = rest

  pub told_given : (given : List Given) → filter (is_told_for selected) (map Gave given) ≡ map Gave (filter (is_told_if_given selected) given)
  told_given [] = refl
  told_given (one ∷ more) = one_gave one more (told_given more) (is_told_if_given selected one)

  -- nothing, where nothing was handed in
  pub nothing_beside : (made : TableSetup) → IsBeside selected made [] [] [] [] [] []
  nothing_beside made = record {
    so_far = nothing_so_far made;
    are = refl;
    in_place = tt;
    given_same = record { frames = λ k is. refl; requests = λ channel. refl };
  }

module _ (selected : Selection) (made : TableSetup) (can : CanBeOpenedWithin made.channels made.rows (length made.records)) (gives : GivesOneSoFar) where
  abbrev chosen : ℕ → Bool
  chosen = is_selected selected

  -- ---- one thing more

  -- what is handed in in the place of a stand-in
  record InItsPlace (handed : List HandedIn) (given : List Given) (happened : List Happening) (was : HappenedSoFar made handed given happened) (one : HandedIn) (e : Entry) : Type 0 where
    other : HandedIn
    is_entry : entry_of other ≡ Some e
    here : InPlace chosen one other
    it : OneMore made can handed given happened was other

  -- there is something
  in_its_place : (others handed : List HandedIn) (given : List Given) (happened : List Happening) (was : HappenedSoFar made handed given happened)
      → AllZip (InPlace chosen) others handed → (one : HandedIn) (e : Entry) (also : List Given) → IsOfTrace made.channels one → IsGivenSoFar made (others ++ one ∷ []) also
      → EntryStandsIn chosen one e → EntryHasBytes e → InItsPlace handed given happened was one e
  in_its_place others handed given happened was all (came channel one) (entry.came place input) also within so_too stands bytes =
      let counts = zip_weaker (AnswersInPlaceOf chosen) CountsAs (λ a b is. is.counts) (answered_on channel others) (answered_on channel handed) (answers_for chosen others handed all channel) in
      let found = some_answer chosen (lane_of made channel) (answered_on channel others) (answered_on channel handed) counts one.input one.answer input
      (its_answer made can gives others channel within one also so_too) stands.1 in
      let answered : AnsweredInput = record { input = input; answer = found.0 } in
      record {
        other = came channel answered;
        is_entry = ap (λ (c : ℕ). Some (entry.came c input)) (sym stands.0);
        here = record { channel_is = refl; answers = found.2; name = same_name channel one.input input stands.1.looks_like };
        it = takes_one made can handed given happened was channel within answered found.1 bytes;
      }
  in_its_place others handed given happened was all (came channel one) (entry.decided decision) also within so_too stands bytes = absurd stands
  in_its_place others handed given happened was all (decided flow decision) e also within so_too stands bytes = record {
    other = decided flow decision;
    is_entry = stands;
    here = refl;
    it = takes_decision made can handed given happened was flow decision within;
  }
  in_its_place others handed given happened was all (restarted flow first) e also within so_too stands bytes = absurd within

  module _ (others : List HandedIn) (also : List Given) (entries : List Entry) (handed : List HandedIn) (given : List Given) (happened : List Happening)
      (was : IsBeside selected made others also entries handed given happened) (one : HandedIn) (e : Entry) (its : InItsPlace handed given happened was.so_far one e)
      (also_more : List Given) (so_too : IsGivenSoFar made (others ++ one ∷ []) (also ++ also_more)) where
    abbrev after : List HandedIn
    after = handed ++ its.other ∷ []

    both : AllZip (InPlace chosen) (others ++ one ∷ []) after
    both = zip_push (InPlace chosen) others handed one its.other was.in_place its.here

    -- what is given more: of the selected flows and of none what was given for the stand-ins, and
    -- of the other flows what is theirs
    abbrev more_beside : List Given
    more_beside = of_both selected also_more its.it.more

    frames_chosen : (k : ℕ) → chosen k ≡ true → frames_of k (given ++ more_beside) ≡ frames_of k (also ++ also_more)
    frames_chosen = frames_selected selected given also also_more its.it.more was.given_same

    frames_others : (k : ℕ) → chosen k ≡ false → frames_of k (given ++ more_beside) ≡ frames_of k (given ++ its.it.more)
    frames_others = frames_unselected selected given also also_more its.it.more was.given_same

    same_requests : (channel : ℕ) → requests_given channel (given ++ more_beside) ≡ requests_given channel (also ++ also_more)
    same_requests = requests_of_both selected given also also_more its.it.more was.given_same

    requests_beside : (channel : ℕ) → requests_given channel (given ++ more_beside) ≡ requests_of (answered_on channel after)
    requests_beside channel =
        same_requests channel ∙ so_too.requests channel
        ∙ sym (requests-same chosen (answered_on channel (others ++ one ∷ [])) (answered_on channel after) (answers_for chosen (others ++ one ∷ []) after both channel))

    flows_beside : (k : ℕ) (flow_record : FlowRecord) → slice_get made.records k ≡ Some flow_record
        → GivesOfBytes any_header (flow_setup made k flow_record) (came_to made after k flow_record) (frames_of k (given ++ more_beside))
    flows_beside k flow_record there = by_flag (chosen k) refl where
      by_flag : (b : Bool) → chosen k ≡ b
          → GivesOfBytes any_header (flow_setup made k flow_record) (came_to made after k flow_record) (frames_of k (given ++ more_beside))
      by_flag false is =
          subst (λ (frames : List (List ℕ)). GivesOfBytes any_header (flow_setup made k flow_record) (came_to made after k flow_record) frames)
          (sym (frames_others k is)) (its.it.flows k flow_record there)
      by_flag true is =
          let setup = flow_setup made k flow_record in
          let own = its.it.flows k flow_record there in
          let theirs = so_too.flows k flow_record there in
          let came : came_to made (others ++ one ∷ []) k flow_record ≡ came_to made after k flow_record =
          ap (λ (inputs : List FlowInput). (last_part setup inputs).comings) (sym (inputs_for chosen k is (length made.records) (others ++ one ∷ []) after both)) in
          let same = gives any_header setup (came_to made after k flow_record) (frames_of k (given ++ its.it.more)) (frames_of k (also ++ also_more))
          own.counts theirs.0 own.given
          (subst (λ (comings : List Coming). HasGivenByRule any_header setup comings (frames_of k (also ++ also_more)) theirs.0) came theirs.1) in
          subst (λ (frames : List (List ℕ)). GivesOfBytes any_header setup (came_to made after k flow_record) frames) (same.0 ∙ sym (frames_chosen k is)) own

    others_beside : (k : ℕ) → length made.records ≤ k → frames_of k (given ++ more_beside) ≡ []
    others_beside k past = by_flag (chosen k) refl where
      by_flag : (b : Bool) → chosen k ≡ b → frames_of k (given ++ more_beside) ≡ []
      by_flag true is = frames_chosen k is ∙ so_too.others k past
      by_flag false is = frames_others k is ∙ its.it.others k past

    -- this happens with it
    it_beside : OneMore made can handed given happened was.so_far its.other
    it_beside = record {
      of_trace = its.it.of_trace;
      more = more_beside;
      told = its.it.told;
      tells = its.it.tells;
      answered = its.it.answered;
      requests = requests_beside;
      flows = flows_beside;
      others = others_beside;
    }

    then_beside : IsBeside selected made (others ++ one ∷ []) (also ++ also_more) (entries ++ e ∷ []) after (given ++ more_beside) (happened ++ (map Gave more_beside ++ its.it.told))
    unfolding it_beside
    then_beside = record {
      so_far = happened_with made can handed given happened was.so_far its.other it_beside;
      are =
          filter_map-append entry_of handed (its.other ∷ []) ∙ ap (λ (t : List Entry). t ++ cons_option (entry_of its.other) []) was.are
          ∙ ap (λ (o : Option Entry). entries ++ cons_option o []) its.is_entry;
      in_place = both;
      given_same = record { frames = λ k is. sym (frames_chosen k is); requests = λ channel. sym (same_requests channel) };
    }

    -- and the same is told
    given_told : filter (is_told_for selected) (map Gave more_beside) ≡ filter (is_told_for selected) (map Gave also_more)
    given_told = told_given selected more_beside ∙ ap (map Gave) (kept_of_both selected also_more its.it.more) ∙ sym (told_given selected also_more)

    grows : (telling : List Happening) → IsOfTrace made.channels one → Tells made others one telling
        → GrowsBeside selected made others also entries handed given happened one e also_more telling
    grows telling of_trace tells =
        let p = is_told_for selected in
        let told = one_alike selected made can gives others handed was.in_place one its.other telling its.it.told (also ++ also_more) of_trace its.here so_too tells its.it.tells in
        record {
          other = its.other;
          more = more_beside;
          told = its.it.told;
          beside = then_beside;
          same =
              filter-append p (map Gave more_beside) its.it.told ∙ ap (λ (t : List Happening). t ++ filter p its.it.told) given_told
              ∙ ap (λ (t : List Happening). filter p (map Gave also_more) ++ t) (sym told) ∙ sym (filter-append p (map Gave also_more) telling);
        }

  -- so the whole grows with the stand-ins
  pub one_more_beside : (others : List HandedIn) (also : List Given) (entries : List Entry) (handed : List HandedIn) (given : List Given) (happened : List Happening)
      (one : HandedIn) (e : Entry) (also_more : List Given) (telling : List Happening) → IsBeside selected made others also entries handed given happened
      → IsOfTrace made.channels one → EntryStandsIn chosen one e → EntryHasBytes e → IsGivenSoFar made (others ++ one ∷ []) (also ++ also_more)
      → Tells made others one telling → GrowsBeside selected made others also entries handed given happened one e also_more telling
  one_more_beside others also entries handed given happened one e also_more telling was of_trace stands bytes so_too tells =
      let its = in_its_place others handed given happened was.so_far was.in_place one e (also ++ also_more) of_trace so_too stands bytes in
      grows others also entries handed given happened was one e its also_more so_too telling of_trace tells

  -- ---- whatever happened for stand-ins

  -- What happens for some entries beside what happened for stand-ins: the same is told of the
  -- selected flows and of none, in the same order.
  pub record HappensBeside (others : List HandedIn) (also : List Given) (happening : List Happening) (entries : List Entry) : Type 0 where
    pub handed : List HandedIn
    pub given : List Given
    pub happened : List Happening
    pub beside : IsBeside selected made others also entries handed given happened
    pub told_same : filter (is_told_for selected) happened ≡ filter (is_told_for selected) happening

  then_happens : (others : List HandedIn) (also : List Given) (happening : List Happening) (entries : List Entry) → (so : HappensBeside others also happening entries)
      → (one : HandedIn) (e : Entry) (also_more : List Given) (telling : List Happening)
      → GrowsBeside selected made others also entries so.handed so.given so.happened one e also_more telling
      → HappensBeside (others ++ one ∷ []) (also ++ also_more) (happening ++ (map Gave also_more ++ telling)) (entries ++ e ∷ [])
  then_happens others also happening entries so one e also_more telling grown =
      let p = is_told_for selected in
      let tells = map Gave grown.more ++ grown.told in
      record {
        handed = so.handed ++ grown.other ∷ [];
        given = so.given ++ grown.more;
        happened = so.happened ++ tells;
        beside = grown.beside;
        told_same =
            filter-append p so.happened tells ∙ ap (λ (t : List Happening). t ++ filter p tells) so.told_same
            ∙ ap (λ (t : List Happening). filter p happening ++ t) grown.same ∙ sym (filter-append p happening (map Gave also_more ++ telling));
      }

  pub happens_beside : {others : List HandedIn} {also : List Given} {happening : List Happening} → HasHappened made others also happening
      → All (IsOfTrace made.channels) others → (entries : List Entry) → AllZip (EntryStandsIn chosen) others entries → AllByRecursion EntryHasBytes entries
      → HappensBeside others also happening entries
  happens_beside nothing each [] stand bytes =
      record { handed = []; given = []; happened = []; beside = nothing_beside selected made; told_same = refl }
  happens_beside nothing each (e ∷ entries) stand bytes = absurd stand
  happens_beside (one_more {handed = others} {given = also} also_more one {happened = happening} telling before so_too tells) each entries stand bytes =
      let every = All-pop (IsOfTrace made.channels) (others ++ one ∷ []) others (Some one) refl each in
      let last = zip_last (EntryStandsIn chosen) others one entries stand in
      let all = subst (AllByRecursion EntryHasBytes) last.2 bytes in
      let so = happens_beside before every.0 last.0 last.3 (AllByRecursion-front EntryHasBytes last.0 (last.1 ∷ []) all) in
      let grown = one_more_beside others also last.0 so.handed so.given so.happened one last.1 also_more telling so.beside every.1 last.4
      (AllByRecursion-behind EntryHasBytes last.0 (last.1 ∷ []) all).0 so_too tells in
      subst (HappensBeside (others ++ one ∷ []) (also ++ also_more) (happening ++ (map Gave also_more ++ telling))) (sym last.2)
      (then_happens others also happening last.0 so one last.1 also_more telling grown)
