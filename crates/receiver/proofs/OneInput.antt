-- What a receiver takes of one input of a channel: its flow is made ready, its lane answers it, and
-- what is admitted comes to its flow.
use Rattle.std.proofs.Common.{◌≡◌, ℕ, ◌<◌, inl, inr, Bool, Option, Some, None, Ok, List, [], ◌∷◌, ◌++◌, length, map, filter_map, slice_get, slice_set, slice_index_or, refl, ap, sym, subst, ◌∙◌, append-nil, append_assoc, arith}
use Rattle.std.specs.Option.{option_map}
use Rattle.std.proofs.lemmas.Bool.{cases_eq}
use Rattle.std.proofs.lemmas.List.Elements.{filter_map-append}
use Rattle.std.proofs.lemmas.List.{length-set}
use Rattle.std.proofs.lemmas.Option.{same_Some, slice_get_within, slice_get_read}
use Rattle.flow_core.proofs.OneFlow.{written, written_other}
use Rattle.docsis_wire.specs.declared.segment.Segment.{Segment}
use Rattle.loss_rule.specs.Rule.{Coming}
use Rattle.lane.specs.declared.admitted.Admitted.{Admitted}
use Rattle.lane.specs.declared.input.Input.{Input}
use Rattle.lane.specs.Inputs.{Answer, IsAnswer}
use Rattle.lane.specs.Report.{admitted_by}
use Rattle.consumer.specs.declared.given.Given.{Given}
use Rattle.consumer.specs.declared.given.Given.TheVariants.{Frame}
use Rattle.consumer.specs.Given.{request_on, requests_given}
use Rattle.bonded_flows.specs.declared.flow_table.FlowTable.{FlowTable}
use Rattle.bonded_flows.specs.declared.told.Told.{Told}
use Rattle.bonded_flows.specs.FlowSetup.{FlowSetup}
use Rattle.bonded_flows.specs.ByRule.{IsTold}
use Rattle.bonded_flows.specs.Table.{TableSetup, TableInput, PartStandsAt, IsPreparedAt}
use Rattle.bonded_flows.specs.Table.{StandsFor as TableStandsFor, TakesMore as TableTakesMore}
use Rattle.bonded_flows.proofs.TableTurns.{no-request}
use Rattle.receiver.specs.declared.tallied_lane.TalliedLane.{TalliedLane}
use Rattle.receiver.specs.declared.receiver.Receiver.{Receiver}
use Rattle.receiver.specs.declared.reply.Reply.TheVariants as reply
use Rattle.receiver.specs.HandedIn.{HandedIn, came, arrives_on, flow_inputs, answered_on, lane_of, begun_with, came_since}
use Rattle.receiver.specs.Receiving.{HasAnswered, HaveAnswered, AnswersMore, AnswersTheSame, AnswersFor, IsReadyFor, StandsFor, IsReceiving, TakesMore, TakesAdmitted, IsToldRightly}
use Rattle.receiver.proofs.AnsweredInputs.{admitted-flow, admitted-channel, lanes-stay, lanes-answer, is-answer}
use Rattle.receiver.proofs.InputsTaken.{part-at, takes-both}

-- what a lane reads at a place stands there
pub lane-here : (lanes : List TalliedLane) (channel : ℕ) (one : TalliedLane) → channel < length lanes → one ≡ slice_index_or lanes channel one → slice_get lanes channel ≡ Some one
lane-here lanes channel one inside read = slice_get_read lanes (length lanes) channel one refl inside read

-- it has answered, with as many records as there are flows
pub answers-for : {C : Type 0} (accepts : C → List ℕ → Bool) (receiver : Receiver C) → IsReceiving accepts receiver → (channel : ℕ) (one : TalliedLane)
    → slice_get receiver.lanes.items channel ≡ Some one → AnswersFor receiver.flows one.lane
answers-for accepts receiver receiving channel one here = record {
  setup = lane_of receiving.made channel;
  answered = answered_on channel receiving.handed;
  stands = (receiving.stands.lanes.each channel one here).stands;
  flow_count = receiving.stands.flows.flow_count;
}

-- a lane that answered no more
lanes-same : (made : TableSetup) (handed : List HandedIn) (given : List Given) (lanes : List TalliedLane) (channel : ℕ) (before after : TalliedLane)
    → slice_get lanes channel ≡ Some before → AnswersTheSame before after → HaveAnswered made lanes handed given → HaveAnswered made (slice_set lanes channel after) handed given
lanes-same made handed given lanes channel before after here same have = record {
  rows_fit = have.rows_fit;
  count = length-set lanes channel after ∙ have.count;
  each = λ on stands there.
      elim (cases_eq channel on) [
        | inl own ↦
            subst (λ (n : ℕ). slice_get (slice_set lanes channel after) n ≡ Some stands → HasAnswered (lane_of made n) stands (answered_on n handed)) own
            (λ there_own.
            subst (λ (t : TalliedLane). HasAnswered (lane_of made channel) t (answered_on channel handed))
            (same_Some after stands (sym (written lanes channel after (slice_get_within lanes channel before here)) ∙ there_own))
            (same (lane_of made channel) (answered_on channel handed) (have.each channel before here))) there
        | inr apart ↦ have.each on stands (sym (written_other lanes channel on after (λ own. apart (sym own))) ∙ there)
      ];
  requests = have.requests;
}

-- what is handed in of an input to the flows
came-input : (n channel : ℕ) (input : Input) (answer : Answer) (admitted : Option Admitted) → admitted_by answer ≡ admitted
    → flow_inputs n (came channel (record { input = input; answer = answer }) ∷ []) ≡ filter_map (λ (o : Option TableInput). o) (option_map (arrives_on channel) admitted ∷ [])
came-input n channel input answer admitted is = ap (λ (a : Option Admitted). filter_map (λ (o : Option TableInput). o) (option_map (arrives_on channel) a ∷ [])) is

module _ {C O : Type 0} (accepts : C → List ℕ → Bool) (after : O → List Given → O → Type 0) (receiver receiver' : Receiver C) (flows : FlowTable C) (out mid out' : O)
    (channel : ℕ) (before lane : TalliedLane) (here : slice_get receiver.lanes.items channel ≡ Some before)
    (lanes_are : receiver'.lanes.items ≡ slice_set receiver.lanes.items channel lane)
    (k : ℕ) (ready : TableTakesMore after accepts receiver.flows out k [] flows mid) where
  abbrev first : List Given
  first = map (Frame k) ready.more

  ready-stands : (check : List ℕ → Bool) (made : TableSetup) (history : List TableInput) (given : List Given) → TableStandsFor accepts receiver.flows check made history given
      → TableStandsFor accepts flows check made history (given ++ map (Frame k) ready.more)
  ready-stands check made history given stands =
      subst (λ h. TableStandsFor accepts flows check made h (given ++ map (Frame k) ready.more)) (append-nil history) (ready.stands check made history given stands)

  -- the input is given back
  pub takes-back : AnswersTheSame before lane → receiver'.flows ≡ flows → out' ≡ mid → TakesMore after accepts receiver out [] receiver' out'
  takes-back same flows_are out_is =
      takes-both accepts after receiver receiver' out out' [] first
      (λ start given was. subst (λ o. after start (given ++ map (Frame k) ready.more) o) (sym out_is) (ready.was_given start given was))
      (λ made handed given have.
      subst (λ lanes. HaveAnswered made lanes (handed ++ []) (given ++ map (Frame k) ready.more)) (sym lanes_are)
      (lanes-same made (handed ++ []) (given ++ map (Frame k) ready.more) receiver.lanes.items channel before lane here same
      (lanes-stay made handed given (map (Frame k) ready.more) receiver.lanes.items [] (λ on. refl) (λ on. no-request k on ready.more) have)))
      (λ check made history given stands.
      subst (λ (t : FlowTable C). TableStandsFor accepts t check made (history ++ []) (given ++ map (Frame k) ready.more)) (sym flows_are)
      (ready.stands check made history given stands))

  module _ (input : Input) (answer : Answer) (answers : AnswersMore before input answer lane) where
    -- nothing is admitted
    pub takes-none : admitted_by answer ≡ None → receiver'.flows ≡ flows → out' ≡ mid
        → TakesMore after accepts receiver out (came channel (record { input = input; answer = answer }) ∷ []) receiver' out'
    takes-none none flows_are out_is =
        takes-both accepts after receiver receiver' out out' (came channel (record { input = input; answer = answer }) ∷ []) first
        (λ start given was. subst (λ o. after start (given ++ map (Frame k) ready.more) o) (sym out_is) (ready.was_given start given was))
        (λ made handed given have.
        subst (λ lanes. HaveAnswered made lanes (handed ++ came channel (record { input = input; answer = answer }) ∷ []) (given ++ map (Frame k) ready.more)) (sym lanes_are)
        (lanes-answer made handed given (map (Frame k) ready.more) receiver.lanes.items channel before lane here input answer answers have None
        (λ admitted some. let both = sym none ∙ some in absurd (cc)) (λ is. refl)
        (λ on. no-request k on ready.more) (λ request is. absurd (cc))))
        (λ check made history given stands.
        subst (λ (t : FlowTable C). TableStandsFor accepts t check made (history ++ flow_inputs (length made.records) (came channel (record { input = input; answer = answer }) ∷ [])) (given ++ map (Frame k) ready.more)) (sym flows_are)
        (subst (λ (i : List TableInput). TableStandsFor accepts flows check made (history ++ i) (given ++ map (Frame k) ready.more)) (sym (came-input (length made.records) channel input answer None none))
        (ready.stands check made history given stands)))

    module _ (admitted : Admitted) (some : answer ≡ Ok (Some admitted)) where
      answered-so : (made : TableSetup) (handed : List HandedIn) (given : List Given) → HaveAnswered made receiver.lanes.items handed given
          → IsAnswer (lane_of made channel) (answered_on channel handed) input (Ok (Some admitted))
      answered-so made handed given have =
          subst (λ a. IsAnswer (lane_of made channel) (answered_on channel handed) input a) some
          (is-answer made handed given [] receiver.lanes.items channel before lane here input answer answers have)

      -- the flow exists, and is prepared
      pub flow-exists : IsReceiving accepts receiver → admitted.flow < length flows.slots.items
      flow-exists receiving =
          let count = (ready.stands receiving.check receiving.made (flow_inputs (length receiving.made.records) receiving.handed) receiving.given receiving.stands.flows).flow_count in
          let inside = admitted-flow (lane_of receiving.made channel) (answered_on channel receiving.handed) input admitted (answered-so receiving.made receiving.handed receiving.given receiving.stands.lanes) in
          omega arith

      pub flow-prepared : IsReceiving accepts receiver → IsReadyFor before.lane input flows → IsPreparedAt flows admitted.flow
      flow-prepared receiving is_ready =
          is_ready receiving.made.channels (lane_of receiving.made channel) (answered_on channel receiving.handed) (Ok (Some admitted)) admitted receiving.stands.lanes.rows_fit
          (receiving.stands.lanes.each channel before here).stands (answered-so receiving.made receiving.handed receiving.given receiving.stands.lanes) refl

      -- a segment is admitted
      pub takes-some : TakesAdmitted after accepts flows mid channel admitted receiver'.flows out'
          → TakesMore after accepts receiver out (came channel (record { input = input; answer = answer }) ∷ []) receiver' out'
      takes-some taken =
          takes-both accepts after receiver receiver' out out' (came channel (record { input = input; answer = answer }) ∷ []) (first ++ taken.given_more)
          (λ start given was.
          subst (λ g. after start g out') (append_assoc given first taken.given_more)
          (taken.was_given start (given ++ first) (ready.was_given start given was)))
          (λ made handed given have.
          subst (λ lanes. HaveAnswered made lanes (handed ++ came channel (record { input = input; answer = answer }) ∷ []) (given ++ (first ++ taken.given_more))) (sym lanes_are)
          (lanes-answer made handed given (first ++ taken.given_more) receiver.lanes.items channel before lane here input answer answers have admitted.request
          (λ other is. ap (λ (a : Admitted). a.request) (same_Some admitted other (sym (ap admitted_by some) ∙ is)))
          (λ none. let both = sym (ap admitted_by some) ∙ none in absurd (cc))
          (λ on.
          filter_map-append (request_on on) first taken.given_more
          ∙ ap (λ t. t ++ requests_given on taken.given_more) (no-request k on ready.more) ∙ taken.requests on)
          (λ request is. admitted-channel (lane_of made channel) (answered_on channel handed) input admitted request (answered-so made handed given have) is)))
          (λ check made history given stands.
          subst (λ (i : List TableInput). TableStandsFor accepts receiver'.flows check made (history ++ i) (given ++ (first ++ taken.given_more))) (sym (came-input (length made.records) channel input answer (Some admitted) (ap admitted_by some)))
          (subst (λ g. TableStandsFor accepts receiver'.flows check made (history ++ arrives_on channel admitted ∷ []) g) (append_assoc given first taken.given_more)
          (taken.stands check made history (given ++ first) (ready-stands check made history given stands))))

      -- what is told of it is told rightly
      pub told-rightly : (told : Told)
          → ((setup : FlowSetup) (comings : List Coming) (given : List (List ℕ)) → PartStandsAt (accepts flows.check) setup flows admitted.flow comings given → IsTold setup comings channel admitted.segment told)
          → (check : List ℕ → Bool) (made : TableSetup) (handed : List HandedIn) (given : List Given) → StandsFor accepts receiver check made handed given
          → IsToldRightly made handed channel answer (reply.Admitted admitted.flow admitted.segment.head.sequence told)
      told-rightly told tells check made handed given stands flow_record other of_record is =
          let history = flow_inputs (length made.records) handed in
          let part = part-at accepts flows check made history (given ++ first) admitted.flow flow_record (ready-stands check made history given stands.flows) of_record in
          subst (λ (s : Segment). IsTold (begun_with made admitted.flow flow_record history) (came_since made admitted.flow flow_record history) channel s told)
          (ap (λ (a : Admitted). a.segment) (same_Some admitted other (sym (ap admitted_by some) ∙ is)))
          (tells (begun_with made admitted.flow flow_record history) (came_since made admitted.flow flow_record history) part.own part.is_so)
