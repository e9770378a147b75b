-- What a receiver takes of stand-ins it takes of the whole.
use Rattle.std.proofs.Common.{◌≡◌, ℕ, ◌<◌, inl, inr, Bool, true, false, Option, Some, None, Ok, List, [], ◌∷◌, ◌++◌, length, map, refl, sym, ap, subst, ◌∙◌, append-nil, arith}
use Rattle.std.specs.Prelude.{if◌then◌else◌, IfSome}
use Rattle.std.specs.Option.{option_map}
use Rattle.std.proofs.lemmas.Bool.{eq-eqb, false≢true}
use Rattle.std.proofs.lemmas.List.Elements.{filter_map-append}
use Rattle.docsis_wire.proofs.StreamPlaces.{element_at}
use Rattle.flow_core.specs.declared.counts.FlowCounts.{FlowCounts}
use Rattle.flow_selection.specs.declared.selection.Selection.{Selection}
use Rattle.flow_selection.specs.Selection.{is_selected}
use Rattle.lane.specs.declared.admitted.Admitted.{Admitted}
use Rattle.lane.specs.declared.input.Input.{Input}
use Rattle.lane.specs.declared.input.Input.TheVariants.{Grant, Burst}
use Rattle.lane.specs.Inputs.{Answer, AnsweredInput, HasBytes, IsAnswer, AreAnswered}
use Rattle.lane.specs.Report.{admitted_by}
use Rattle.lane.proofs.LaneTaking.{answered-last}
use Rattle.consumer.specs.declared.given.Given.{Given}
use Rattle.consumer.specs.declared.given.Given.TheVariants.{Frame}
use Rattle.bonded_flows.specs.Slots.{LeavesOf}
use Rattle.bonded_flows.specs.Table.{TableSetup}
use Rattle.bonded_flows.specs.declared.decision.FlowDecision.{FlowDecision}
use Rattle.bonded_flows.specs.declared.flow_slot.DecideFault.{DecideFault}
use Rattle.bonded_flows.specs.declared.flow_slot.DecideFault.TheVariants as decide_fault
use Rattle.receiver.specs.declared.receiver.Receiver.{Receiver}
use Rattle.receiver.specs.declared.closing.Closed.{Closed}
use Rattle.receiver.specs.declared.reply.Reply.{Reply}
use Rattle.receiver.specs.declared.reply.TakeError.{TakeError}
use Rattle.receiver.specs.declared.reply.TakeError.TheVariants as take_error
use Rattle.receiver.specs.Elsewhere.{LooksLike}
use Rattle.receiver.specs.HandedIn.{HandedIn, came, decided, restarted, came_on, answered_on, lane_of}
use Rattle.receiver.specs.Receiving.{StandsFor, TakesMore, Replies, Restarts, Fails, WouldCome}
use Rattle.receiver.specs.Received.{Closes}
use Rattle.receiver.proofs.Pairs.{zip_same}
use Rattle.receiver.proofs.AnsweredInputs.{one_if, came-on}
use Rattle.answers.specs.Beside.{CountsAs, AreAdmittedFor, AnswersInPlaceOf}
use Rattle.answers.proofs.StandIns.{some_answer}
use Rattle.selected_receiver.specs.declared.selected_receiver.SelectedReceiver.{SelectedReceiver}
use Rattle.selected_receiver.specs.StandIns.{AreHeadedAlike, MayStandIn}
use Rattle.selected_receiver.specs.Whole.{IsWhole, IsSeenOf, StandsForWhole, IsReceivingWhole}
use Rattle.selected_receiver.specs.declared.of_selected.OfSelected.{OfSelected}
use Rattle.selected_receiver.specs.Handing.{HandsOn}
use Rattle.selected_receiver.specs.Taking.{WasSeen, seen_of, TakesWhole, TakesSomeOfWhole, RepliesOfWhole, RestartsOfWhole, ClosesOfWhole}
use Rattle.selected_receiver.proofs.AlikeWhole.{told-of_whole}
use Rattle.selected_receiver.proofs.AnsweredWhole.{whole-answer}
use Rattle.selected_receiver.proofs.Grown.{whole-more, whole-input, whole-decision}
use Rattle.selected_receiver.proofs.RestartedWhole.{whole-restart}
use Rattle.selected_receiver.proofs.ClosedWhole.{whole-closed}

-- ---- what looks alike

looks_same : (input : Input) → LooksLike input input
looks_same (Grant number sid bytes) = refl
looks_same (Burst number hcs_ok bytes) = (refl, refl, refl, refl)

looks_back : (input other : Input) → LooksLike input other → LooksLike other input
looks_back (Grant number sid bytes) other looks = subst (λ (i : Input). LooksLike i (Grant number sid bytes)) (sym looks) refl
looks_back (Burst number hcs_ok bytes) (Grant other sid size) looks = absurd looks
looks_back (Burst number hcs_ok bytes) (Burst other also more) looks = (sym looks.0, sym looks.1, sym looks.2, sym looks.3)

-- ---- answers

counts_same : (one : AnsweredInput) → CountsAs one one
counts_same one = record { grants = λ number sid bytes is. is; granted_by = λ number sid bytes is. is; number = refl; spends = refl; accepts = refl }

-- what is admitted in place of something is of its flow
same_flow : (chosen : ℕ → Bool) (one other : Option Admitted) → AreAdmittedFor chosen one other
    → option_map (λ (a : Admitted). a.flow) other ≡ option_map (λ (a : Admitted). a.flow) one
same_flow chosen None None are = refl
same_flow chosen None (Some other) are = absurd are
same_flow chosen (Some one) None are = absurd are
same_flow chosen (Some one) (Some other) are = ap Some are.flow

-- what came on a channel with one input more
own_inputs : (handed : List HandedIn) (channel : ℕ) (one : AnsweredInput) → answered_on channel (handed ++ came channel one ∷ []) ≡ answered_on channel handed ++ one ∷ []
own_inputs handed channel one =
    filter_map-append (came_on channel) handed (came channel one ∷ [])
    ∙ ap (λ (t : List AnsweredInput). answered_on channel handed ++ t) (came-on channel channel one ∙ ap (λ (b : Bool). one_if b one) (eq-eqb channel channel refl))

-- ---- what is known of a receiver of the code

module _ {C : Type 0} (accepts : C → List ℕ → Bool) (receiver : Receiver C) (check : List ℕ → Bool) (made : TableSetup) where
  -- a channel that it has is one of those that it is made with, and its lane there has answered all
  -- that came
  pub lane-there : (handed : List HandedIn) (given : List Given) → StandsFor accepts receiver check made handed given → (channel : ℕ) → channel < length receiver.lanes.items
      → (channel < made.channels) × AreAnswered (lane_of made channel) (answered_on channel handed)
  lane-there handed given stands channel exists =
      let count = stands.lanes.count in
      let found = element_at receiver.lanes.items channel exists in
      (omega arith, (stands.lanes.each channel found.0 found.1).stands.answered)

module _ (selected : Selection) (check : List ℕ → Bool) (made : TableSetup) where
  abbrev chosen : ℕ → Bool
  chosen = is_selected selected

  -- ---- one input

  module _ {C : Type 0} (accepts : C → List ℕ → Bool) (receiver : Receiver C) (others handed : List HandedIn) (also given : List Given)
      (stands : StandsFor accepts receiver check made others also) (whole : IsWhole chosen check made others also handed given)
      (channel : ℕ) (exists : channel < length receiver.lanes.items) (input other : Input) (may : MayStandIn accepts chosen receiver channel input other) where
    abbrev taken : List AnsweredInput
    taken = answered_on channel others

    within : channel < made.channels
    within = (lane-there accepts receiver check made others also stands channel exists).0

    -- where a stand-in isn't the input itself, nothing is admitted of it to a selected flow
    apart : (answer : Answer) → IsAnswer (lane_of made channel) taken other answer → LooksLike input other → (flow : Option ℕ) → WouldCome accepts receiver channel input flow
        → IfSome flow (λ k. chosen k ≡ false) → (admitted : Admitted) → admitted_by answer ≡ Some admitted → chosen admitted.flow ≡ false
    apart answer is looks flow would none admitted by =
        let one : AnsweredInput = record { input = other; answer = answer } in
        let found = some_answer (λ k. false) (lane_of made channel) taken taken (zip_same CountsAs counts_same taken) other answer input is
        (record { looks_like = looks_back input other looks; same = λ a gives of_selected. absurd (false≢true of_selected) }) in
        let its = would check made others also found.0 stands within found.1 in
        let same = same_flow (λ k. false) (admitted_by answer) (admitted_by found.0) found.2.admitted in
        subst (λ (f : Option ℕ). IfSome f (λ k. chosen k ≡ false)) (sym its ∙ same ∙ ap (option_map (λ (a : Admitted). a.flow)) by) none

    looks_real : LooksLike other input
    looks_real = elim may [
      | inl same ↦ subst (λ (i : Input). LooksLike i input) (sym same) (looks_same input)
      | inr is ↦ looks_back input other is.0
    ]

    real_if : (answer : Answer) → IsAnswer (lane_of made channel) taken other answer → (admitted : Admitted) → admitted_by answer ≡ Some admitted
        → chosen admitted.flow ≡ true → input ≡ other
    real_if answer is admitted by of_selected = elim may [
      | inl same ↦ sym same
      | inr differs ↦
          absurd (false≢true (sym (apart answer is differs.0 differs.1.0 differs.1.1 differs.1.2 admitted by) ∙ of_selected))
    ]

    -- What the whole's lane answers, in the place of an answer.
    pub record RealAnswer (answer : Answer) : Type 0 where
      pub real : Answer
      pub is_answer : IsAnswer (lane_of made channel) (answered_on channel handed) input real
      pub in_place : AnswersInPlaceOf chosen (record { input = other; answer = answer }) (record { input = input; answer = real })
      pub headed : AreHeadedAlike (admitted_by answer) (admitted_by real)

    pub real-answer : (answer : Answer) → IsAnswer (lane_of made channel) taken other answer → RealAnswer answer
    real-answer answer is =
        let found = whole-answer selected check made others also handed given whole channel (record { input = other; answer = answer }) input is looks_real (real_if answer is) in
        record { real = found.0; is_answer = found.1; in_place = found.2; headed = found.3 }

    -- so the whole grows by it
    pub record TakesReal (receiver' : Receiver C) (also_more : List Given) (answer : Answer) : Type 0 where
      pub its : RealAnswer answer
      pub more : List Given
      pub whole_then : IsWhole chosen check made (others ++ came channel (record { input = other; answer = answer }) ∷ []) (also ++ also_more)
          (handed ++ came channel (record { input = input; answer = its.real }) ∷ []) (given ++ more)
      pub seen : IsSeenOf selected more also_more

    pub takes-real : (receiver' : Receiver C) (also_more : List Given) (answer : Answer) → HasBytes input
        → StandsFor accepts receiver' check made (others ++ came channel (record { input = other; answer = answer }) ∷ []) (also ++ also_more)
        → TakesReal receiver' also_more answer
    takes-real receiver' also_more answer bytes stands' =
        let one : AnsweredInput = record { input = other; answer = answer } in
        let count : length receiver'.lanes.items ≡ made.channels = stands'.lanes.count in
        let below = within in
        let inside : channel < length receiver'.lanes.items = omega arith in
        let all = (lane-there accepts receiver' check made (others ++ came channel one ∷ []) (also ++ also_more) stands' channel inside).1 in
        let is = answered-last (lane_of made channel) taken one (subst (AreAnswered (lane_of made channel)) (own_inputs others channel one) all) in
        let its = real-answer answer is in
        let grown = whole-input selected check made others also handed given whole also_more stands'.flows.others channel below one (record { input = input; answer = its.real }) its.in_place its.headed
        its.is_answer bytes in
        record { its = its; more = grown.0; whole_then = grown.1; seen = grown.2 }

-- ---- what is seen

-- a consumer that was given nothing hands on nothing
pub hands-nothing : {O : Type 0} (after : O → List Given → O → Type 0) (w : OfSelected O) → HandsOn after w [] w
hands-nothing after w = record {
  same = refl;
  selected = refl;
  handed_on = λ first before was. subst (λ (g : List Given). after first g w.out.now) (sym (append-nil before)) was;
}

-- frames of a flow are seen where it is selected
frames_seen : (selected : Selection) (flow : ℕ) (frames : List (List ℕ)) (b : Bool) → is_selected selected flow ≡ b
    → seen_of selected (map (Frame flow) frames) ≡ (if b then map (Frame flow) frames else [])
frames_seen selected flow [] true is = refl
frames_seen selected flow [] false is = refl
frames_seen selected flow (frame ∷ frames) true is =
    ap (λ (c : Bool). if c then Frame flow frame ∷ seen_of selected (map (Frame flow) frames) else seen_of selected (map (Frame flow) frames)) is
    ∙ ap (λ (t : List Given). Frame flow frame ∷ t) (frames_seen selected flow frames true is)
frames_seen selected flow (frame ∷ frames) false is =
    ap (λ (c : Bool). if c then Frame flow frame ∷ seen_of selected (map (Frame flow) frames) else seen_of selected (map (Frame flow) frames)) is
    ∙ frames_seen selected flow frames false is

same_seen : (selected : Selection) (flow : ℕ) (frames theirs : List (List ℕ)) → (is_selected selected flow ≡ true → frames ≡ theirs)
    → seen_of selected (map (Frame flow) theirs) ≡ seen_of selected (map (Frame flow) frames)
same_seen selected flow frames theirs same = by_flag (is_selected selected flow) refl where
  by_flag : (b : Bool) → is_selected selected flow ≡ b → seen_of selected (map (Frame flow) theirs) ≡ seen_of selected (map (Frame flow) frames)
  by_flag true is = ap (λ (f : List (List ℕ)). seen_of selected (map (Frame flow) f)) (sym (same is))
  by_flag false is = frames_seen selected flow theirs false is ∙ sym (frames_seen selected flow frames false is)

-- ---- what is taken of stand-ins is taken of the whole

module _ {C O : Type 0} (accepts : C → List ℕ → Bool) (after : O → List Given → O → Type 0) (old new : SelectedReceiver C) (w w' : OfSelected O) (same : new.selected ≡ old.selected) (of_old : w.selected.now ≡ old.selected) where
  abbrev seen_in : List Given → List Given
  seen_in given = seen_of old.selected given

  -- what was given to the consumer behind
  was-seen : (given : List Given) → HandsOn after w given w' → WasSeen after w.out.now (seen_in given) w'.out.now
  was-seen given hands first before was =
      subst (λ (s : Selection). after first (before ++ seen_of s given) w'.out.now) of_old (hands.handed_on first before was)

  -- a list that was given behind nothing
  all-given : (given : List Given) → ((start : OfSelected O) (before : List Given) → HandsOn after start before w → HandsOn after start (before ++ given) w') → HandsOn after w given w'
  all-given given was = was w [] (hands-nothing after w)

  stands-new : (check : List ℕ → Bool) (made : TableSetup) (others : List HandedIn) (also : List Given) (handed : List HandedIn) (given : List Given)
      → StandsFor accepts new.receiver check made others also → IsWhole (is_selected old.selected) check made others also handed given
      → StandsForWhole accepts new check made handed given
  stands-new check made others also handed given stands whole = record {
    others = others;
    also = also;
    stands = stands;
    whole = subst (λ (s : Selection). IsWhole (is_selected s) check made others also handed given) (sym same) whole;
  }

  -- a decision
  pub takes-decided : (flow : ℕ) (decision : FlowDecision) → TakesMore (HandsOn after) accepts old.receiver w (decided flow decision ∷ []) new.receiver w'
      → TakesWhole accepts after old w.out.now (decided flow decision ∷ []) new w'.out.now
  takes-decided flow decision takes = record {
    seen = seen_in takes.given_more;
    was_seen = was-seen takes.given_more (all-given takes.given_more takes.was_given);
    selected = same;
    stands = λ check made handed given was.
        let stands = takes.stands check made was.others was.also was.stands in
        let grown = whole-decision old.selected check made was.others was.also handed given was.whole takes.given_more stands.flows.others flow decision in (
          grown.0,
          stands-new check made (was.others ++ decided flow decision ∷ []) (was.also ++ takes.given_more) (handed ++ decided flow decision ∷ []) (given ++ grown.0) stands grown.1,
          sym grown.2,
        );
  }

  -- nothing besides
  pub takes-nothing : TakesMore (HandsOn after) accepts old.receiver w [] new.receiver w' → TakesSomeOfWhole accepts after old w.out.now new w'.out.now
  takes-nothing takes = record {
    seen = seen_in takes.given_more;
    was_seen = was-seen takes.given_more (all-given takes.given_more takes.was_given);
    selected = same;
    stands = λ check made handed given was.
        let stands = subst (λ (h : List HandedIn). StandsFor accepts new.receiver check made h (was.also ++ takes.given_more)) (append-nil was.others)
        (takes.stands check made was.others was.also was.stands) in
        let grown = whole-more old.selected check made was.others was.also handed given was.whole takes.given_more stands.flows.others in (
          [],
          grown.0,
          subst (λ (h : List HandedIn). StandsForWhole accepts new check made h (given ++ grown.0)) (sym (append-nil handed))
              (stands-new check made was.others (was.also ++ takes.given_more) handed (given ++ grown.0) stands grown.1),
          sym grown.2,
        );
  }

  -- nothing at all
  nothing-taken : new.receiver ≡ old.receiver → w' ≡ w → TakesMore (HandsOn after) accepts old.receiver w [] new.receiver w'
  nothing-taken still unchanged = record {
    given_more = [];
    was_given = λ start given was.
        subst (λ (o : OfSelected O). HandsOn after start (given ++ []) o) (sym unchanged) (subst (λ (g : List Given). HandsOn after start g w) (sym (append-nil given)) was);
    stands = λ check made handed given stands.
        subst (λ (r : Receiver C). StandsFor accepts r check made (handed ++ []) (given ++ [])) (sym still)
        (subst (λ (h : List HandedIn). StandsFor accepts old.receiver check made h (given ++ [])) (sym (append-nil handed))
        (subst (λ (g : List Given). StandsFor accepts old.receiver check made handed g) (sym (append-nil given)) stands));
  }

  -- so of something
  pub some-of : (more : List HandedIn) → TakesWhole accepts after old w.out.now more new w'.out.now → TakesSomeOfWhole accepts after old w.out.now new w'.out.now
  some-of more takes = record {
    seen = takes.seen;
    was_seen = takes.was_seen;
    selected = takes.selected;
    stands = λ check made handed given was.
        let stands = takes.stands check made handed given was in (more, stands.0, stands.1, stands.2);
  }

  -- a decision that wasn't taken, or not to the end
  pub some-decided : (flow : ℕ) (decision : FlowDecision) (fault : DecideFault)
      → LeavesOf fault (TakesMore (HandsOn after) accepts old.receiver w [] new.receiver w') (TakesMore (HandsOn after) accepts old.receiver w (decided flow decision ∷ []) new.receiver w')
      → TakesSomeOfWhole accepts after old w.out.now new w'.out.now
  some-decided flow decision (decide_fault.NotTaken why) leaves = takes-nothing leaves
  some-decided flow decision decide_fault.Unfinished leaves = some-of (decided flow decision ∷ []) (takes-decided flow decision leaves)

  -- the consumer that it borrows stays the same one
  pub same-handed : (more : List HandedIn) → TakesMore (HandsOn after) accepts old.receiver w more new.receiver w' → w'.out.ghost_name ≡ w.out.ghost_name
  same-handed more takes = (all-given takes.given_more takes.was_given).same

  pub some-handed : (decision : HandedIn) (fault : DecideFault)
      → LeavesOf fault (TakesMore (HandsOn after) accepts old.receiver w [] new.receiver w') (TakesMore (HandsOn after) accepts old.receiver w (decision ∷ []) new.receiver w')
      → w'.out.ghost_name ≡ w.out.ghost_name
  some-handed decision (decide_fault.NotTaken why) leaves = same-handed [] leaves
  some-handed decision decide_fault.Unfinished leaves = same-handed (decision ∷ []) leaves

  pub failed-handed : (channel : ℕ) (other : Input) (error : TakeError) → Fails (HandsOn after) accepts old.receiver w channel other error new.receiver w' → w'.out.ghost_name ≡ w.out.ghost_name
  failed-handed channel other (take_error.NoChannel back) fails = ap (λ (o : OfSelected O). o.out.ghost_name) fails.3
  failed-handed channel other (take_error.NotTaken back why) fails = same-handed [] fails.3
  failed-handed channel other (take_error.Unfinished flow) fails = same-handed _ fails.takes

  -- a flow that begins anew
  pub takes-restart : (flow first : ℕ) (counts : FlowCounts) → Restarts (HandsOn after) accepts old.receiver w flow first counts new.receiver w'
      → RestartsOfWhole accepts after old w.out.now flow first counts new w'.out.now
  takes-restart flow first counts restarts = record {
    seen = seen_in (map (Frame flow) restarts.more);
    was_seen = was-seen (map (Frame flow) restarts.more) (all-given (map (Frame flow) restarts.more) restarts.was_given);
    selected = same;
    stands = λ check made handed given was.
        let stands = restarts.stands check made was.others was.also was.stands in
        let grown = whole-restart old.selected check made was.others was.also handed given was.whole flow first restarts.more counts stands.flows.others
        (λ flow_record there. restarts.gave check made was.others was.also flow_record was.stands there) in (
          grown.0,
          grown.1,
          stands-new check made (was.others ++ restarted flow first ∷ []) (was.also ++ map (Frame flow) restarts.more) (handed ++ restarted flow first ∷ [])
              (given ++ map (Frame flow) grown.0) stands grown.2,
          grown.3,
          same_seen old.selected flow grown.0 restarts.more (λ of_selected. (grown.4 of_selected).0),
          λ of_selected. (grown.4 of_selected).1,
        );
  }

  -- so it takes something
  pub some-restarted : (flow first : ℕ) (counts : FlowCounts) → RestartsOfWhole accepts after old w.out.now flow first counts new w'.out.now
      → TakesSomeOfWhole accepts after old w.out.now new w'.out.now
  some-restarted flow first counts restarts = record {
    seen = restarts.seen;
    was_seen = restarts.was_seen;
    selected = restarts.selected;
    stands = λ check made handed given was.
        let stands = restarts.stands check made handed given was in (restarted flow first ∷ [], map (Frame flow) stands.0, stands.2, stands.4);
  }

  pub some-replied : (channel : ℕ) (input : Input) (reply : Reply) → RepliesOfWhole accepts after old w.out.now channel input reply new w'.out.now
      → TakesSomeOfWhole accepts after old w.out.now new w'.out.now
  some-replied channel input reply replies = record {
    seen = replies.seen;
    was_seen = replies.was_seen;
    selected = replies.selected;
    stands = λ check made handed given was.
        let stands = replies.stands check made handed given was in
        (came channel (record { input = input; answer = stands.0 }) ∷ [], stands.3, stands.4, stands.5);
  }

  module _ (channel : ℕ) (input other : Input) (may : MayStandIn accepts (is_selected old.selected) old.receiver channel input other) (bytes : HasBytes input) where
    -- an input
    pub takes-input : (reply : Reply) → Replies (HandsOn after) accepts old.receiver w channel other reply new.receiver w'
        → RepliesOfWhole accepts after old w.out.now channel input reply new w'.out.now
    takes-input reply replies = record {
      seen = seen_in replies.takes.given_more;
      was_seen = was-seen replies.takes.given_more (all-given replies.takes.given_more replies.takes.was_given);
      selected = same;
      stands = λ check made handed given was.
          let one : AnsweredInput = record { input = other; answer = replies.answer } in
          let stands = replies.takes.stands check made was.others was.also was.stands in
          let grown = takes-real old.selected check made accepts old.receiver was.others handed was.also given was.stands was.whole channel replies.exists input other may
          new.receiver replies.takes.given_more replies.answer bytes stands in
          let real : AnsweredInput = record { input = input; answer = grown.its.real } in
          let told = told-of_whole (is_selected old.selected) was.others handed was.whole.stand_ins made channel one real grown.its.in_place grown.its.headed reply replies.says
          (replies.told check made was.others was.also was.stands) in (
            grown.its.real,
            told.0,
            told.1,
            grown.more,
            stands-new check made (was.others ++ came channel one ∷ []) (was.also ++ replies.takes.given_more) (handed ++ came channel real ∷ []) (given ++ grown.more) stands
                grown.whole_then,
            sym grown.seen,
          );
    }

    -- one that wasn't taken, or not to the end
    pub some-failed : (error : TakeError) → Fails (HandsOn after) accepts old.receiver w channel other error new.receiver w' → TakesSomeOfWhole accepts after old w.out.now new w'.out.now
    some-failed (take_error.NoChannel back) fails = takes-nothing (nothing-taken fails.2 fails.3)
    some-failed (take_error.NotTaken back why) fails = takes-nothing fails.3
    some-failed (take_error.Unfinished flow) fails = record {
      seen = seen_in fails.takes.given_more;
      was_seen = was-seen fails.takes.given_more (all-given fails.takes.given_more fails.takes.was_given);
      selected = same;
      stands = λ check made handed given was.
          let answer : Answer = Ok (Some fails.admitted) in
          let one : AnsweredInput = record { input = other; answer = answer } in
          let stands = fails.takes.stands check made was.others was.also was.stands in
          let grown = takes-real old.selected check made accepts old.receiver was.others handed was.also given was.stands was.whole channel fails.exists input other may
          new.receiver fails.takes.given_more answer bytes stands in
          let real : AnsweredInput = record { input = input; answer = grown.its.real } in (
            came channel real ∷ [],
            grown.more,
            stands-new check made (was.others ++ came channel one ∷ []) (was.also ++ fails.takes.given_more) (handed ++ came channel real ∷ []) (given ++ grown.more) stands
                grown.whole_then,
            sym grown.seen,
          );
    }

  -- the close
  pub closes-whole : (closed : Closed) → Closes (HandsOn after) accepts old.receiver w closed w' → ClosesOfWhole accepts after old w.out.now closed w'.out.now
  closes-whole closed closes = record {
    seen = seen_in closes.given_more;
    was_seen = was-seen closes.given_more (all-given closes.given_more closes.was_given);
    received = λ check made handed given was.
        let grown = whole-closed old.selected check made was.others was.also handed given was.whole closes.given_more closed
        (closes.received check made was.others was.also was.stands) in
        (grown.0, grown.1, grown.2, sym grown.3, grown.4);
  }

-- it stands for something still
pub receiving-then : {C O : Type 0} (accepts : C → List ℕ → Bool) (after : O → List Given → O → Type 0) (old new : SelectedReceiver C) (out out' : O)
    → TakesSomeOfWhole accepts after old out new out' → IsReceivingWhole accepts old → IsReceivingWhole accepts new
receiving-then accepts after old new out out' takes was =
    let stands = takes.stands was.check was.made was.handed was.given was.stands in
    record { check = was.check; made = was.made; handed = was.handed ++ stands.0; given = was.given ++ stands.1; stands = stands.2 }
