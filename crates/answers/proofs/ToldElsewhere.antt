-- What is told of the selected flows doesn't depend on what other flows' bursts carry.
use Rattle.std.proofs.Common.{◌≡◌, ℕ, ◌<◌, ◌≤◌, ◌⊎◌, inl, inr, Bool, true, false, Option, Some, None, All, List, [], ◌∷◌, ◌++◌, length, map, filter, filter_map, get_or, refl, sym, ap, subst, ◌∙◌}
use Rattle.std.specs.Prelude.{if◌then◌else◌, MatchOption, slice_get}
use Rattle.std.specs.List.{AllZip}
use Rattle.std.proofs.lemmas.List.{append_cancel_left}
use Rattle.std.proofs.lemmas.List.Elements.{All-pop, filter_map-append}
use Rattle.std.proofs.lemmas.Option.{same_Some, slice_get_cases}
use Rattle.docsis_wire.specs.declared.segment.Segment.{Segment}
use Rattle.flow_records.specs.declared.record.FlowRecord.{FlowRecord}
use Rattle.flow_core.specs.Fates.{Fates, number_of, IsExpected}
use Rattle.flow_core.specs.Events.{FlowEvent}
use Rattle.flow_selection.specs.declared.selection.Selection.{Selection}
use Rattle.flow_selection.specs.Selection.{is_selected}
use Rattle.flow_selection.specs.Lines.{is_left}
use Rattle.lane.specs.declared.admitted.Admitted.{Admitted}
use Rattle.lane.specs.Rows.{CanBeOpenedWithin}
use Rattle.lane.specs.Inputs.{Answer, AnsweredInput}
use Rattle.lane.specs.Report.{admitted_by, refused_by}
use Rattle.lane.proofs.LaneTaking.{answered-before}
use Rattle.lane.proofs.OneLaneAnswer.{one-answer}
use Rattle.loss_rule.specs.Rule.{Coming, Lasts, AreRuled}
use Rattle.consumer.specs.declared.given.Given.{Given}
use Rattle.consumer.specs.Given.{frame_of, frames_of, request_on, requests_given}
use Rattle.bonded_flows.specs.declared.decision.FlowDecision.{FlowDecision}
use Rattle.bonded_flows.specs.declared.told.Told.{Told}
use Rattle.bonded_flows.specs.ByRule.{decision_event, HasGivenByRule, IsTold, IsToldLost}
use Rattle.bonded_flows.specs.FlowSetup.{ruled_flow}
use Rattle.bonded_flows.specs.Parts.{FlowInput, last_part, begun_at}
use Rattle.bonded_flows.specs.Table.{TableSetup, flow_setup, inputs_at}
use Rattle.receiver.specs.declared.reply.Reply.{Reply}
use Rattle.receiver.specs.declared.reply.Reply.TheVariants as reply
use Rattle.receiver.specs.declared.reply.DecisionReply.{DecisionReply}
use Rattle.receiver.specs.declared.reply.DecisionReply.TheVariants as decision_reply
use Rattle.receiver.specs.Elsewhere.{StandsIn}
use Rattle.receiver.specs.Entries as entry
use Rattle.receiver.specs.Entries.{Entry}
use Rattle.receiver.specs.HandedIn.{HandedIn, came, decided, restarted, answered_on, flow_inputs, lane_of}
use Rattle.receiver.specs.Held.{HoldsByRule}
use Rattle.receiver.specs.Receiving.{Says, IsToldRightly, IsLossToldRightly}
use Rattle.receiver.specs.Replaying.{entry_of}
use Rattle.receiver.proofs.Pairs.{zip_push, zip_weaker}
use Rattle.texts.specs.declared.follow.happening.Happening.{Happening}
use Rattle.texts.specs.declared.follow.happening.Happening.TheVariants.{Gave, Took, Decided, Stands}
use Rattle.texts.specs.declared.follow.happening.InputName.{InputName}
use Rattle.texts.specs.AnyHeader.{any_header}
use Rattle.texts.specs.FollowedReport.{came_to}
use Rattle.texts.specs.Happening.{name_of_input}
use Rattle.texts.specs.Happened.{IsOfTrace, IsGivenSoFar, IsStanding, TellsStanding, TellsStandingAfter, flow_admitted, flow_decided, TellsInput, TellsDecision, Tells, HasHappened, nothing, one_more}
use Rattle.texts.proofs.OneHappening.{entry_there, same_decision, no_decision, entries_more, its_answer, answered_with, one_input, one_decision, GivesOneSoFar}
use Rattle.answers.specs.ToldAlike.{EntryStandsIn, is_told_for, AreGivenFor, HappenFor, for_nothing, for_more}
use Rattle.answers.specs.Beside.{CountsAs, AreAdmittedFor, AnswersInPlaceOf, InputsFor, InPlace}
use Rattle.answers.proofs.OtherItems.{requests-same}
use Rattle.answers.proofs.StandIns.{some_answer}
use Rattle.answers.proofs.HandedInPlace.{zip_pop, none_zipped, some_zipped, same_name, replies_same, granted_too, refused_too, admitted_too, answers_for, inputs_for}

module _ (selected : Selection) (made : TableSetup) (can : CanBeOpenedWithin made.channels made.rows (length made.records)) (gives : GivesOneSoFar) where
  abbrev chosen : ℕ → Bool
  chosen = is_selected selected

  -- ---- what is given

  pub given_for : (handed others : List HandedIn) (given also : List Given) → AllZip (InPlace chosen) handed others → IsGivenSoFar made handed given
      → IsGivenSoFar made others also → AreGivenFor selected given also
  given_for handed others given also all is are = record {
    frames = λ k of_selected. of_flow k of_selected (slice_get_cases made.records k).1;
    requests = λ channel.
        is.requests channel ∙ sym (requests-same chosen (answered_on channel handed) (answered_on channel others) (answers_for chosen handed others all channel))
        ∙ sym (are.requests channel);
  } where
    of_flow : (k : ℕ) → chosen k ≡ true
        → ((flow_record : FlowRecord) × (k < length made.records) × (slice_get made.records k ≡ Some flow_record) × (get_or made.records k flow_record ≡ flow_record))
        ⊎ ((length made.records ≤ k) × (slice_get made.records k ≡ None)) → frames_of k given ≡ frames_of k also
    of_flow k of_selected (inl one) =
        let setup = flow_setup made k one.0 in
        let first = is.flows k one.0 one.2 in
        let second = are.flows k one.0 one.2 in
        let same : came_to made others k one.0 ≡ came_to made handed k one.0 =
        ap (λ (inputs : List FlowInput). (last_part setup inputs).comings) (inputs_for chosen k of_selected (length made.records) handed others all) in
        (gives any_header setup (came_to made handed k one.0) (frames_of k given) (frames_of k also) first.0 second.0 first.1
        (subst (λ (comings : List Coming). HasGivenByRule any_header setup comings (frames_of k also) second.0) same second.1)).0
    of_flow k of_selected (inr past) = is.others k past.0 ∙ sym (are.others k past.0)

  -- where the same was given before, what is given more is the same
  more_for : (given others more also : List Given) → AreGivenFor selected given others → AreGivenFor selected (given ++ more) (others ++ also) → AreGivenFor selected more also
  more_for given others more also before after = record {
    frames = λ k of_selected.
        append_cancel_left (frames_of k given) (frames_of k more) (frames_of k also)
        (sym (filter_map-append (frame_of k) given more) ∙ after.frames k of_selected ∙ filter_map-append (frame_of k) others also
        ∙ ap (λ (t : List (List ℕ)). t ++ frames_of k also) (sym (before.frames k of_selected)));
    requests = λ channel.
        append_cancel_left (requests_given channel given) (requests_given channel more) (requests_given channel also)
        (sym (filter_map-append (request_on channel) given more) ∙ after.requests channel ∙ filter_map-append (request_on channel) others also
        ∙ ap (λ t. t ++ requests_given channel also) (sym (before.requests channel)));
  }

  -- ---- what is told of a selected flow

  module _ (handed others : List HandedIn) (all : AllZip (InPlace chosen) handed others) (k : ℕ) (of_selected : chosen k ≡ true) where
    inputs_same : inputs_at k (flow_inputs (length made.records) others) ≡ inputs_at k (flow_inputs (length made.records) handed)
    inputs_same = inputs_for chosen k of_selected (length made.records) handed others all

    -- how it stands
    standing_for : (flow_record : FlowRecord) (expected held : ℕ) → IsStanding made others k flow_record expected held → IsStanding made handed k flow_record expected held
    standing_for flow_record expected held is =
        let setup = flow_setup made k flow_record in
        record {
          number =
              subst (λ (inputs : List FlowInput). (events : List FlowEvent) (lasts : Lasts) (fates : Fates) (x : ℕ)
              → AreRuled made.rule (ruled_flow (begun_at setup (last_part setup inputs).first)) (last_part setup inputs).comings events lasts fates → IsExpected fates x
              → expected ≡ number_of (begun_at setup (last_part setup inputs).first).flow_record.first x) inputs_same is.number;
          holds =
              subst (λ (inputs : List FlowInput). HoldsByRule (begun_at setup (last_part setup inputs).first) (last_part setup inputs).comings held) inputs_same is.holds;
        }

    -- and what is told of that
    tells_for : (told : List Happening) → TellsStanding made others k told → TellsStanding made handed k told
    tells_for told is = of_record (slice_get made.records k) is where
      As : List HandedIn → Option FlowRecord → Type 0
      As after known =
          MatchOption known (told ≡ [])
          (λ flow_record. (expected : ℕ) × (held : ℕ) × (told ≡ Stands k expected held ∷ []) × IsStanding made after k flow_record expected held)

      of_record : (known : Option FlowRecord) → As others known → As handed known
      of_record None is = is
      of_record (Some flow_record) is = (is.0, is.1, is.2, standing_for flow_record is.0 is.1 is.3)

    -- the verdict on a segment
    told_for : (flow_record : FlowRecord) (channel : ℕ) (segment : Segment) (told : Told)
        → (λ (inputs : List FlowInput). IsTold (begun_at (flow_setup made k flow_record) (last_part (flow_setup made k flow_record) inputs).first)
        (last_part (flow_setup made k flow_record) inputs).comings channel segment told) (inputs_at k (flow_inputs (length made.records) others))
        → (λ (inputs : List FlowInput). IsTold (begun_at (flow_setup made k flow_record) (last_part (flow_setup made k flow_record) inputs).first)
        (last_part (flow_setup made k flow_record) inputs).comings channel segment told) (inputs_at k (flow_inputs (length made.records) handed))
    told_for flow_record channel segment told is =
        let setup = flow_setup made k flow_record in
        subst (λ (inputs : List FlowInput). IsTold (begun_at setup (last_part setup inputs).first) (last_part setup inputs).comings channel segment told) inputs_same is

    -- whether a decision lost anything
    loss_for : (decision : FlowDecision) (one : DecisionReply) → IsLossToldRightly made others k decision one → IsLossToldRightly made handed k decision one
    loss_for decision decision_reply.PassedOver is = tt
    loss_for decision (decision_reply.Taken lost) is = λ flow_record there.
        let setup = flow_setup made k flow_record in
        subst (λ (inputs : List FlowInput). IsToldLost (begun_at setup (last_part setup inputs).first) (last_part setup inputs).comings (decision_event decision) lost)
        inputs_same (is flow_record there)

  -- how a flow stands, if it is one that is selected
  after_for : (handed others : List HandedIn) → AllZip (InPlace chosen) handed others → (flow : Option ℕ) (told : List Happening) → is_left selected flow ≡ true
      → TellsStandingAfter made others flow told → TellsStandingAfter made handed flow told
  after_for handed others all None told left is = is
  after_for handed others all (Some k) told left is = tells_for handed others all k left told is

  -- ---- what is told of no selected flow is left out

  out_standing : (handed : List HandedIn) (flow : Option ℕ) (told : List Happening) → is_left selected flow ≡ false → TellsStandingAfter made handed flow told
      → filter (is_told_for selected) told ≡ []
  out_standing handed None told out is = absurd cc
  out_standing handed (Some k) told out is = of_record (slice_get made.records k) is where
    of_record : (known : Option FlowRecord)
        → MatchOption known (told ≡ [])
        (λ flow_record. (expected : ℕ) × (held : ℕ) × (told ≡ Stands k expected held ∷ []) × IsStanding made handed k flow_record expected held)
        → filter (is_told_for selected) told ≡ []
    of_record None none = ap (filter (is_told_for selected)) none
    of_record (Some flow_record) one =
        ap (filter (is_told_for selected)) one.2 ∙ ap (λ (b : Bool). if b then Stands k one.0 one.1 ∷ [] else []) out

  out_of : (first : Happening) (standing : List Happening) → is_told_for selected first ≡ false → filter (is_told_for selected) standing ≡ []
      → filter (is_told_for selected) (first ∷ standing) ≡ []
  out_of first standing out none =
      ap (λ (b : Bool). if b then first ∷ filter (is_told_for selected) standing else filter (is_told_for selected) standing) out ∙ none

  -- ---- an input

  module _ (handed others : List HandedIn) (channel : ℕ) (one other : AnsweredInput) (answers : AnswersInPlaceOf chosen one other)
      (name : name_of_input channel other.input ≡ name_of_input channel one.input) (before : AllZip (InPlace chosen) handed others)
      (all : AllZip (InPlace chosen) (handed ++ came channel one ∷ []) (others ++ came channel other ∷ [])) where
    -- the same is said
    says_for : (second : Reply) → Says second other.answer → is_left selected (flow_admitted second) ≡ true → Says second one.answer
    says_for reply.Granted says left =
        granted_too chosen one.answer (subst (λ (a : Answer). AreAdmittedFor chosen (admitted_by one.answer) (admitted_by a)) says answers.admitted)
        (sym (ap (λ (a : Answer). refused_by a) says) ∙ answers.refused)
    says_for (reply.Refused why) says left =
        refused_too chosen one.answer why (subst (λ (a : Answer). AreAdmittedFor chosen (admitted_by one.answer) (admitted_by a)) says answers.admitted)
        (sym (ap (λ (a : Answer). refused_by a) says) ∙ answers.refused)
    says_for (reply.Admitted flow sequence told) says left =
        let found = admitted_too chosen one.answer says.0
        (subst (λ (a : Answer). AreAdmittedFor chosen (admitted_by one.answer) (admitted_by a)) says.1 answers.admitted) in
        let flows = says.2 ∙ found.2 in
        let segment = found.3 (ap chosen (sym flows) ∙ left) in
        (found.0, found.1, flows, says.3 ∙ ap (λ (s : Segment). s.head.sequence) segment)

    -- and it is told rightly
    rightly_for : (second : Reply) → Says second other.answer → is_left selected (flow_admitted second) ≡ true → IsToldRightly made others channel other.answer second
        → IsToldRightly made handed channel one.answer second
    rightly_for reply.Granted says left right = tt
    rightly_for (reply.Refused why) says left right = tt
    rightly_for (reply.Admitted flow sequence told) says left right = λ flow_record admitted there by.
        let found = admitted_too chosen one.answer says.0
        (subst (λ (a : Answer). AreAdmittedFor chosen (admitted_by one.answer) (admitted_by a)) says.1 answers.admitted) in
        let flows = says.2 ∙ found.2 in
        let segment = found.3 (ap chosen (sym flows) ∙ left) in
        let same : found.0 ≡ admitted = same_Some found.0 admitted (sym (ap (λ (a : Answer). admitted_by a) found.1) ∙ by) in
        let is = told_for handed others before flow left flow_record channel says.0.segment told
        (right flow_record says.0 there (ap (λ (a : Answer). admitted_by a) says.1)) in
        let setup = flow_setup made flow flow_record in
        let inputs = inputs_at flow (flow_inputs (length made.records) handed) in
        subst (λ (s : Segment). IsTold (begun_at setup (last_part setup inputs).first) (last_part setup inputs).comings channel s told)
        (segment ∙ ap (λ (a : Admitted). a.segment) same) is

    -- what is told of a selected flow, or of none, is told of the other input too
    input_for : (telling : List Happening) → (tells : TellsInput made others channel other telling) → is_left selected (flow_admitted tells.reply) ≡ true
        → TellsInput made handed channel one telling
    input_for telling tells left = record {
      reply = tells.reply;
      says = says_for tells.reply tells.says left;
      rightly = rightly_for tells.reply tells.says left tells.rightly;
      standing = tells.standing;
      stands =
          after_for (handed ++ came channel one ∷ []) (others ++ came channel other ∷ []) all (flow_admitted tells.reply) tells.standing left tells.stands;
      are = tells.are ∙ ap (λ (n : InputName). Took n tells.reply ∷ tells.standing) name;
    }

    -- what is told of another flow is left out
    input_out : (after : List HandedIn) (n : InputName) (second : Reply) (standing : List Happening) → is_left selected (flow_admitted second) ≡ false
        → TellsStandingAfter made after (flow_admitted second) standing → filter (is_told_for selected) (Took n second ∷ standing) ≡ []
    input_out after n second standing out stands = out_of (Took n second) standing out (out_standing after (flow_admitted second) standing out stands)

    -- so the same is told of both inputs
    input_alike : (told telling : List Happening) (given : List Given) → channel < made.channels → IsGivenSoFar made (handed ++ came channel one ∷ []) given
        → TellsInput made handed channel one told → TellsInput made others channel other telling
        → filter (is_told_for selected) told ≡ filter (is_told_for selected) telling
    input_alike told telling given within so_far is are = by_flag (is_left selected (flow_admitted are.reply)) refl where
      by_flag : (left : Bool) → is_left selected (flow_admitted are.reply) ≡ left → filter (is_told_for selected) told ≡ filter (is_told_for selected) telling
      by_flag true left =
          ap (filter (is_told_for selected)) (one_input made can gives handed channel one told telling given within so_far is (input_for telling are left))
      by_flag false out =
          let same = replies_same chosen one other is.reply are.reply answers is.says are.says in
          ap (filter (is_told_for selected)) is.are
          ∙ input_out (handed ++ came channel one ∷ []) (name_of_input channel one.input) is.reply is.standing (ap (is_left selected) (sym same) ∙ out) is.stands
          ∙ sym (ap (filter (is_told_for selected)) are.are
          ∙ input_out (others ++ came channel other ∷ []) (name_of_input channel other.input) are.reply are.standing out are.stands)

  -- ---- a decision

  module _ (handed others : List HandedIn) (flow : ℕ) (decision : FlowDecision) (before : AllZip (InPlace chosen) handed others)
      (all : AllZip (InPlace chosen) (handed ++ decided flow decision ∷ []) (others ++ decided flow decision ∷ [])) where
    decision_left : chosen flow ≡ true → (one : DecisionReply) → is_left selected (flow_decided flow one) ≡ true
    decision_left is decision_reply.PassedOver = refl
    decision_left is (decision_reply.Taken lost) = is

    decision_for : chosen flow ≡ true → (telling : List Happening) → TellsDecision made others flow decision telling → TellsDecision made handed flow decision telling
    decision_for is telling tells = record {
      reply = tells.reply;
      passed_over = tells.passed_over;
      rightly = loss_for handed others before flow is decision tells.reply tells.rightly;
      standing = tells.standing;
      stands =
          after_for (handed ++ decided flow decision ∷ []) (others ++ decided flow decision ∷ []) all (flow_decided flow tells.reply) tells.standing
          (decision_left is tells.reply) tells.stands;
      are = tells.are;
    }

    -- and what is told of another flow's is left out
    decision_out : (after : List HandedIn) (one : DecisionReply) (standing : List Happening) → chosen flow ≡ false
        → TellsStandingAfter made after (flow_decided flow one) standing → filter (is_told_for selected) (Decided flow one ∷ standing) ≡ []
    decision_out after decision_reply.PassedOver standing out stands =
        out_of (Decided flow decision_reply.PassedOver) standing out (ap (filter (is_told_for selected)) stands)
    decision_out after (decision_reply.Taken lost) standing out stands =
        out_of (Decided flow (decision_reply.Taken lost)) standing out (out_standing after (Some flow) standing out stands)

    -- so the same is told of both decisions
    decision_alike : (told telling : List Happening) → TellsDecision made handed flow decision told → TellsDecision made others flow decision telling
        → filter (is_told_for selected) told ≡ filter (is_told_for selected) telling
    decision_alike told telling is are = by_flag (chosen flow) refl where
      by_flag : (left : Bool) → chosen flow ≡ left → filter (is_told_for selected) told ≡ filter (is_told_for selected) telling
      by_flag true left = ap (filter (is_told_for selected)) (one_decision made can gives handed flow decision told telling is (decision_for left telling are))
      by_flag false out =
          ap (filter (is_told_for selected)) is.are ∙ decision_out (handed ++ decided flow decision ∷ []) is.reply is.standing out is.stands
          ∙ sym (ap (filter (is_told_for selected)) are.are ∙ decision_out (others ++ decided flow decision ∷ []) are.reply are.standing out are.stands)

  -- ---- one thing after another

  -- an input that stands in is answered in the other's place
  input_in_place : (handed others : List HandedIn) → AllZip (InPlace chosen) handed others → (channel place : ℕ) (one other : AnsweredInput) (given also : List Given)
      → channel < made.channels → place ≡ channel → StandsIn chosen one other.input → IsGivenSoFar made (handed ++ came channel one ∷ []) given
      → IsGivenSoFar made (others ++ came place other ∷ []) also → InputsFor chosen channel one place other
  input_in_place handed others all channel place one other given also within same stands so_far so_too =
      let there : IsGivenSoFar made (others ++ came channel other ∷ []) also = subst (λ (c : ℕ). IsGivenSoFar made (others ++ came c other ∷ []) also) same so_too in
      let counts = zip_weaker (AnswersInPlaceOf chosen) CountsAs (λ a b is. is.counts) (answered_on channel handed) (answered_on channel others) (answers_for chosen handed others all channel) in
      let found = some_answer chosen (lane_of made channel) (answered_on channel handed) (answered_on channel others) counts one.input one.answer other.input
      (its_answer made can gives handed channel within one given so_far) stands in
      let before = answered-before (lane_of made channel) (answered_on channel others) other (answered_with made can gives others channel within other also there) in
      let answer = one-answer made.channels (lane_of made channel) can (answered_on channel others) before other.input found.0 other.answer found.1
      (its_answer made can gives others channel within other also there) in
      let by_answer : Answer → AnsweredInput = λ answer. record { input = other.input; answer = answer } in
      record {
        channel_is = same;
        answers = subst (λ (a : Answer). AnswersInPlaceOf chosen one (by_answer a)) answer found.2;
        name = same_name channel one.input other.input stands.looks_like;
      }

  -- so is whatever stands in
  one_in_place : (handed others : List HandedIn) → AllZip (InPlace chosen) handed others → (one other : HandedIn) (e : Entry) (given also : List Given)
      → IsOfTrace made.channels one → entry_of other ≡ Some e → EntryStandsIn chosen one e → IsGivenSoFar made (handed ++ one ∷ []) given
      → IsGivenSoFar made (others ++ other ∷ []) also → InPlace chosen one other
  one_in_place handed others all (came channel one) (came place other) (entry.came where_it input) given also within is stands so_far so_too =
      let places : place ≡ where_it = cc in
      let inputs : other.input ≡ input = cc in
      input_in_place handed others all channel place one other given also within (places ∙ stands.0)
      (subst (StandsIn chosen one) (sym inputs) stands.1) so_far so_too
  one_in_place handed others all (came channel one) other (entry.decided decision) given also within is stands so_far so_too = absurd stands
  one_in_place handed others all (came channel one) (decided flow decision) (entry.came where_it input) given also within is stands so_far so_too =
      absurd (no_decision flow decision where_it input is)
  one_in_place handed others all (came channel one) (restarted flow first) (entry.came where_it input) given also within is stands so_far so_too = absurd cc
  one_in_place handed others all (decided flow decision) (came place other) e given also within is stands so_far so_too =
      absurd (no_decision flow decision place other.input (stands ∙ sym is))
  one_in_place handed others all (decided flow decision) (decided another different) e given also within is stands so_far so_too =
      same_decision another flow different decision e is stands
  one_in_place handed others all (decided flow decision) (restarted another first) e given also within is stands so_far so_too = absurd cc
  one_in_place handed others all (restarted flow first) other e given also within is stands so_far so_too = absurd within

  pub one_alike : (handed others : List HandedIn) → AllZip (InPlace chosen) handed others → (one other : HandedIn) (told telling : List Happening) (given : List Given)
      → IsOfTrace made.channels one → InPlace chosen one other → IsGivenSoFar made (handed ++ one ∷ []) given → Tells made handed one told → Tells made others other telling
      → filter (is_told_for selected) told ≡ filter (is_told_for selected) telling
  one_alike handed others all (came channel one) (came place other) told telling given within here so_far is are =
      let same = here.channel_is in
      let there : TellsInput made others channel other telling = subst (λ (c : ℕ). TellsInput made others c other telling) same are in
      let both = zip_push (InPlace chosen) handed others (came channel one) (came channel other) all
      (record { channel_is = refl; answers = here.answers; name = here.name }) in
      input_alike handed others channel one other here.answers here.name all both told telling given within so_far is there
  one_alike handed others all (came channel one) (decided flow decision) told telling given within here so_far is are = absurd here
  one_alike handed others all (came channel one) (restarted flow first) told telling given within here so_far is are = absurd here
  one_alike handed others all (decided flow decision) other told telling given within here so_far is are =
      let there : TellsDecision made others flow decision telling = subst (λ (o : HandedIn). Tells made others o telling) here are in
      let both = zip_push (InPlace chosen) handed others (decided flow decision) (decided flow decision) all refl in
      decision_alike handed others flow decision all both told telling is there
  one_alike handed others all (restarted flow first) other told telling given within here so_far is are = absurd within

  -- what happened up to here is the same of the selected flows
  record AreFor (handed others : List HandedIn) (given also : List Given) (happened happening : List Happening) : Type 0 where
    in_place : AllZip (InPlace chosen) handed others
    given_same : AreGivenFor selected given also
    happened_same : HappenFor selected happened happening

  -- one thing more
  more_alike_for : (handed others : List HandedIn) (given also given_more also_more : List Given) (happened happening told telling : List Happening) (one other : HandedIn) (e : Entry)
      → AreFor handed others given also happened happening → IsOfTrace made.channels one → entry_of other ≡ Some e → EntryStandsIn chosen one e
      → IsGivenSoFar made (handed ++ one ∷ []) (given ++ given_more) → IsGivenSoFar made (others ++ other ∷ []) (also ++ also_more)
      → Tells made handed one told → Tells made others other telling
      → AreFor (handed ++ one ∷ []) (others ++ other ∷ []) (given ++ given_more) (also ++ also_more)
      (happened ++ (map Gave given_more ++ told)) (happening ++ (map Gave also_more ++ telling))
  more_alike_for handed others given also given_more also_more happened happening told telling one other e before of_trace is stands so_far so_too tells tells_too =
      let here = one_in_place handed others before.in_place one other e (given ++ given_more) (also ++ also_more) of_trace is stands so_far so_too in
      let both = zip_push (InPlace chosen) handed others one other before.in_place here in
      let all = given_for (handed ++ one ∷ []) (others ++ other ∷ []) (given ++ given_more) (also ++ also_more) both so_far so_too in
      record {
        in_place = both;
        given_same = all;
        happened_same =
            for_more given_more also_more told telling before.happened_same (more_for given also given_more also_more before.given_same all)
            (one_alike handed others before.in_place one other told telling (given ++ given_more) of_trace here so_far tells tells_too);
      }

  happens_for_selected : {handed others : List HandedIn} {given also : List Given} {happened happening : List Happening} → HasHappened made handed given happened
      → HasHappened made others also happening → All (IsOfTrace made.channels) handed → All (IsOfTrace made.channels) others
      → AllZip (EntryStandsIn chosen) handed (filter_map entry_of others) → AreFor handed others given also happened happening
  happens_for_selected nothing nothing each each_too stand =
      record { in_place = tt; given_same = record { frames = λ k of_selected. refl; requests = λ channel. refl }; happened_same = for_nothing }
  happens_for_selected nothing (one_more {handed = others} more other telling after so_too tells_too) each each_too stand =
      let its = entry_there made.channels other (All-pop (IsOfTrace made.channels) (others ++ other ∷ []) others (Some other) refl each_too).1 in
      absurd (none_zipped (EntryStandsIn chosen) (filter_map entry_of others) its.0
      (subst (AllZip (EntryStandsIn chosen) []) (entries_more made can gives others other its.0 its.1) stand))
  happens_for_selected (one_more {handed} more one told before so_far tells) nothing each each_too stand = absurd (some_zipped (EntryStandsIn chosen) handed one stand)
  happens_for_selected (one_more {handed} {given} more one {happened} told before so_far tells) (one_more {handed = others} {given = also} also_more other {happened = happening} telling after so_too tells_too) each each_too stand =
      let every = All-pop (IsOfTrace made.channels) (handed ++ one ∷ []) handed (Some one) refl each in
      let every_too = All-pop (IsOfTrace made.channels) (others ++ other ∷ []) others (Some other) refl each_too in
      let its = entry_there made.channels other every_too.1 in
      let pairs = zip_pop (EntryStandsIn chosen) handed (filter_map entry_of others) one its.0
      (subst (AllZip (EntryStandsIn chosen) (handed ++ one ∷ [])) (entries_more made can gives others other its.0 its.1) stand) in
      more_alike_for handed others given also more also_more happened happening told telling one other its.0
      (happens_for_selected before after every.0 every_too.0 pairs.0) every.1 its.1 pairs.1 so_far so_too tells tells_too

  pub told_alike : (handed others : List HandedIn) (given also : List Given) (happened happening : List Happening) → HasHappened made handed given happened
      → HasHappened made others also happening → All (IsOfTrace made.channels) handed → All (IsOfTrace made.channels) others
      → AllZip (EntryStandsIn chosen) handed (filter_map entry_of others) → HappenFor selected happened happening
  told_alike handed others given also happened happening is are each each_too stand = (happens_for_selected is are each each_too stand).happened_same
