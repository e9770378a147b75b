-- Something happens as what lines say is handed in, whether or not a receiver made it.
use Rattle.std.proofs.Common.{◌≡◌, ◌≢◌, ℕ, ◌<◌, ◌≤◌, ◌==◌, inl, inr, Bool, true, false, Option, Some, None, Ok, Err, All, List, [], ◌∷◌, ◌++◌, length, map, refl, sym, ap, subst, ◌∙◌, arith, append-nil, append_assoc, eq-eqb, ne_eqb, ltb-true}
use Rattle.std.specs.Prelude.{◌&&◌, nat_lt, if◌then◌else◌, MatchOption, slice_get}
use Rattle.std.specs.Option.{option_map}
use Rattle.std.proofs.lemmas.Bool.{cases_eq, false≢true}
use Rattle.std.proofs.lemmas.List.Elements.{All-nil, All-push, filter_map-append}
use Rattle.std.proofs.lemmas.Option.{same_Some, slice_get_within}
use Rattle.docsis_wire.proofs.StreamPlaces.{element_at, slice_get-at}
use Rattle.flow_records.specs.declared.record.FlowRecord.{FlowRecord}
use Rattle.flow_core.specs.Fates.{Fates, number_of, IsExpected}
use Rattle.flow_core.specs.Events.{FlowEvent}
use Rattle.lane.specs.declared.admitted.Admitted.{Admitted}
use Rattle.lane.specs.declared.admitted.Request.{Request}
use Rattle.lane.specs.declared.input.Input.{Input}
use Rattle.lane.specs.Rows.{CanBeOpenedWithin}
use Rattle.lane.specs.Inputs.{Answer, AnsweredInput, HasBytes, IsAnswer, AreAnswered}
use Rattle.lane.specs.Report.{admitted_by, requests_of}
use Rattle.lane.proofs.LaneAnswers.{answer-to}
use Rattle.lane.proofs.LaneReports.{requests_of-append}
use Rattle.lane.proofs.LaneTaking.{answered-more}
use Rattle.loss_rule.specs.Rule.{Coming, on_channel, handed_in, own_event, Lasts, AreRuled}
use Rattle.consumer.specs.declared.given.Given.{Given}
use Rattle.consumer.specs.declared.given.Given.TheVariants.{Frame}
use Rattle.consumer.specs.Given.{frames_of, request_on, requests_given, asked_in}
use Rattle.bonded_flows.specs.declared.decision.FlowDecision.{FlowDecision}
use Rattle.bonded_flows.specs.declared.decision.FlowDecision.TheVariants.{Gap, GapTo, SkipTo}
use Rattle.bonded_flows.specs.declared.told.Told.{Told}
use Rattle.bonded_flows.specs.ByRule.{decision_event, is_in_range, IsTold, IsToldLost}
use Rattle.bonded_flows.specs.FlowSetup.{FlowSetup, ruled_flow}
use Rattle.bonded_flows.specs.Parts.{comes}
use Rattle.bonded_flows.specs.Table.{TableSetup, flow_setup}
use Rattle.bonded_flows.proofs.TableTurns.{of_flow, frames-own, frames-others, no-request}
use Rattle.receiver.specs.declared.reply.Reply.{Reply}
use Rattle.receiver.specs.declared.reply.Reply.TheVariants as reply
use Rattle.receiver.specs.declared.reply.DecisionReply.TheVariants as decision_reply
use Rattle.receiver.specs.Entries as entry
use Rattle.receiver.specs.Entries.{Entry}
use Rattle.receiver.specs.HandedIn.{HandedIn, came, decided, came_on, answered_on, arrives_on, decides_of, flow_input_of, flow_inputs, lane_of, begun_with}
use Rattle.receiver.specs.Held.{held_from, HoldsByRule}
use Rattle.receiver.specs.Receiving.{IsToldRightly, IsLossToldRightly}
use Rattle.receiver.specs.Replaying.{entry_of, IsGapDecision}
use Rattle.receiver.proofs.AnsweredInputs.{admitted-flow, admitted-channel, one_if, came-on, request_in, asked-on, requests-one}
use Rattle.receiver.proofs.AskedRequests.{frames-asked}
use Rattle.texts.specs.declared.follow.happening.Happening.{Happening}
use Rattle.texts.specs.declared.follow.happening.Happening.TheVariants.{Gave, Took, Decided, Stands}
use Rattle.texts.specs.AnyHeader.{any_header}
use Rattle.texts.specs.FollowedReport.{came_to}
use Rattle.texts.specs.Happening.{name_of_input}
use Rattle.texts.specs.Happened.{IsOfTrace, IsGivenSoFar, IsStanding, TellsStanding, TellsInput, TellsDecision, Tells, nothing, one_more}
use Rattle.answers.specs.Bytes.{AreBytes, Brings}
use Rattle.answers.specs.Beside.{GivesOfBytes, HappenedSoFar}
use Rattle.answers.proofs.AdmittedPayloads.{admitted-payload}
use Rattle.answers.proofs.GivenFlows.{gives_nothing, expects, expects_so, holds_so, gives_more, gives_then, some_told, some_loss}
use Rattle.answers.proofs.MoreComings.{came_stays, came_elsewhere, came_here, begun_once}

-- nothing happened, where nothing was handed in
pub nothing_so_far : (made : TableSetup) → HappenedSoFar made [] [] []
nothing_so_far made = record {
  has_happened = nothing;
  each = All-nil (IsOfTrace made.channels);
  answered = λ channel within k one there. absurd cc;
  requests = λ channel. refl;
  flows = λ k flow_record there. gives_nothing any_header (flow_setup made k flow_record);
  others = λ k past. refl;
}

module _ (made : TableSetup) (can : CanBeOpenedWithin made.channels made.rows (length made.records)) where
  -- What is given for one thing more, besides a request: frames of the flow to which it comes.
  record GivesFor (handed : List HandedIn) (given : List Given) (one : HandedIn) (request : Option Request) : Type 0 where
    gives : List Given
    no_requests : (channel : ℕ) → requests_given channel gives ≡ []
    flows : (k : ℕ) (flow_record : FlowRecord) → slice_get made.records k ≡ Some flow_record
        → GivesOfBytes any_header (flow_setup made k flow_record) (came_to made (handed ++ one ∷ []) k flow_record) (frames_of k (given ++ (asked_in request ++ gives)))
    others : (k : ℕ) → length made.records ≤ k → frames_of k (given ++ (asked_in request ++ gives)) ≡ []

  module _ (handed : List HandedIn) (given : List Given) (happened : List Happening) (was : HappenedSoFar made handed given happened) where
    -- to no flow, and without a request
    gives_none : (one : HandedIn) → flow_input_of (length made.records) one ≡ None → GivesFor handed given one None
    gives_none one none = record {
      gives = [];
      no_requests = λ channel. refl;
      flows = λ k flow_record there.
          let setup = flow_setup made k flow_record in
          let same : frames_of k given ≡ frames_of k (given ++ []) = ap (frames_of k) (sym (append-nil given)) in
          subst (λ (frames : List (List ℕ)). GivesOfBytes any_header setup (came_to made (handed ++ one ∷ []) k flow_record) frames) same
          (subst (λ (comings : List Coming). GivesOfBytes any_header setup comings (frames_of k given)) (sym (came_stays made handed one k flow_record none))
          (was.flows k flow_record there));
      others = λ k past. ap (frames_of k) (append-nil given) ∙ was.others k past;
    }

    module _ (one : HandedIn) (request : Option Request) (k : ℕ) (flow_record : FlowRecord) (here : slice_get made.records k ≡ Some flow_record) (coming : Coming)
        (is : flow_input_of (length made.records) one ≡ Some (of_flow k (comes coming))) (brings : Brings AreBytes (own_event coming)) where
      abbrev setup : FlowSetup
      setup = flow_setup made k flow_record

      abbrev comings : List Coming
      comings = came_to made handed k flow_record

      frames : List (List ℕ)
      frames = gives_more any_header setup comings (frames_of k given) (was.flows k flow_record here) coming brings

      grouped : given ++ (asked_in request ++ map (Frame k) frames) ≡ (given ++ asked_in request) ++ map (Frame k) frames
      grouped = sym (append_assoc given (asked_in request) (map (Frame k) frames))

      frames_here : frames_of k (given ++ (asked_in request ++ map (Frame k) frames)) ≡ frames_of k given ++ frames
      frames_here =
          ap (frames_of k) grouped ∙ frames-own k [] [] (given ++ asked_in request) frames ∙ ap (λ (t : List (List ℕ)). t ++ frames) (frames-asked k given request)

      frames_elsewhere : (other : ℕ) → k ≢ other → frames_of other (given ++ (asked_in request ++ map (Frame k) frames)) ≡ frames_of other given
      frames_elsewhere other apart =
          ap (frames_of other) grouped ∙ frames-others k [] [] (given ++ asked_in request) frames other apart ∙ frames-asked other given request

      here_then : GivesOfBytes any_header setup (came_to made (handed ++ one ∷ []) k flow_record) (frames_of k (given ++ (asked_in request ++ map (Frame k) frames)))
      unfolding frames
      here_then =
          subst (λ (t : List (List ℕ)). GivesOfBytes any_header setup (came_to made (handed ++ one ∷ []) k flow_record) t) (sym frames_here)
          (subst (λ (c : List Coming). GivesOfBytes any_header setup c (frames_of k given ++ frames)) (sym (came_here made handed one k coming is flow_record))
          (gives_then any_header setup comings (frames_of k given) (was.flows k flow_record here) coming brings))

      flows_then : (other : ℕ) (another : FlowRecord) → slice_get made.records other ≡ Some another
          → GivesOfBytes any_header (flow_setup made other another) (came_to made (handed ++ one ∷ []) other another)
          (frames_of other (given ++ (asked_in request ++ map (Frame k) frames)))
      flows_then other another there = elim (cases_eq k other) [
        | inl same ↦
            subst (λ (j : ℕ). (r : FlowRecord) → slice_get made.records j ≡ Some r
            → GivesOfBytes any_header (flow_setup made j r) (came_to made (handed ++ one ∷ []) j r) (frames_of j (given ++ (asked_in request ++ map (Frame k) frames)))) same
            (λ r at.
            subst (λ (r : FlowRecord). GivesOfBytes any_header (flow_setup made k r) (came_to made (handed ++ one ∷ []) k r)
            (frames_of k (given ++ (asked_in request ++ map (Frame k) frames)))) (same_Some flow_record r (sym here ∙ at)) here_then)
            another there
        | inr apart ↦
            subst (λ (t : List (List ℕ)). GivesOfBytes any_header (flow_setup made other another) (came_to made (handed ++ one ∷ []) other another) t)
            (sym (frames_elsewhere other apart))
            (subst (λ (c : List Coming). GivesOfBytes any_header (flow_setup made other another) c (frames_of other given))
            (sym (came_elsewhere made handed one k coming is other another apart)) (was.flows other another there))
      ]

      gives_some : GivesFor handed given one request
      gives_some = record {
        gives = map (Frame k) frames;
        no_requests = λ channel. no-request k channel frames;
        flows = flows_then;
        others = λ other past.
            let within = slice_get_within made.records k flow_record here in
            frames_elsewhere other (λ same. omega arith) ∙ was.others other past;
      }

    -- ---- how a flow stands

    -- where this flow has given this
    stands_so : (after : List HandedIn) (k : ℕ) (flow_record : FlowRecord) (frames : List (List ℕ)) → All (IsOfTrace made.channels) after
        → slice_get made.records k ≡ Some flow_record → GivesOfBytes any_header (flow_setup made k flow_record) (came_to made after k flow_record) frames
        → (told : List Happening) × TellsStanding made after k told
    stands_so after k flow_record frames each here gives =
        let setup = flow_setup made k flow_record in
        let comings = came_to made after k flow_record in
        let number = expects any_header setup comings frames gives in
        let held = held_from gives.given.fates gives.given.outcome.x in
        let begun = sym (begun_once made made.channels after each k flow_record) in
        let standing : IsStanding made after k flow_record number held = record {
          number =
              subst (λ (s : FlowSetup). (events : List FlowEvent) (lasts : Lasts) (fates : Fates) (x : ℕ) → AreRuled made.rule (ruled_flow s) comings events lasts fates
              → IsExpected fates x → number ≡ number_of s.flow_record.first x) begun (expects_so any_header setup comings frames gives);
          holds = subst (λ (s : FlowSetup). HoldsByRule s comings held) begun (holds_so any_header setup comings frames gives);
        } in (
          Stands k number held ∷ [],
          subst (λ (known : Option FlowRecord). MatchOption known (Stands k number held ∷ [] ≡ [])
              (λ flow_record. (expected : ℕ) × (held_now : ℕ) × (Stands k number held ∷ [] ≡ Stands k expected held_now ∷ [])
              × IsStanding made after k flow_record expected held_now)) (sym here)
              (number, held, refl, standing),
        )

    -- ---- one more

    -- What one thing more brings: what is given for it, and what is told of it.
    pub record OneMore (one : HandedIn) : Type 0 where
      pub of_trace : IsOfTrace made.channels one
      pub more : List Given
      pub told : List Happening
      pub tells : Tells made handed one told
      pub answered : (channel : ℕ) → channel < made.channels → AreAnswered (lane_of made channel) (answered_on channel (handed ++ one ∷ []))
      pub requests : (channel : ℕ) → requests_given channel (given ++ more) ≡ requests_of (answered_on channel (handed ++ one ∷ []))
      pub flows : (k : ℕ) (flow_record : FlowRecord) → slice_get made.records k ≡ Some flow_record
          → GivesOfBytes any_header (flow_setup made k flow_record) (came_to made (handed ++ one ∷ []) k flow_record) (frames_of k (given ++ more))
      pub others : (k : ℕ) → length made.records ≤ k → frames_of k (given ++ more) ≡ []

    -- with it all is given that comes of what was handed in
    pub so_far_with : (one : HandedIn) → (it : OneMore one) → IsGivenSoFar made (handed ++ one ∷ []) (given ++ it.more)
    so_far_with one it = record {
      answered = it.answered;
      requests = it.requests;
      flows = λ k flow_record there. let gives = it.flows k flow_record there in (gives.counts, gives.given);
      others = it.others;
    }

    -- and it happened besides
    pub happened_with : (one : HandedIn) → (it : OneMore one) → HappenedSoFar made (handed ++ one ∷ []) (given ++ it.more) (happened ++ (map Gave it.more ++ it.told))
    happened_with one it = record {
      has_happened = one_more it.more one it.told was.has_happened (so_far_with one it) it.tells;
      each = All-push (IsOfTrace made.channels) handed one was.each it.of_trace;
      answered = it.answered;
      requests = it.requests;
      flows = it.flows;
      others = it.others;
    }

    module _ (one : HandedIn) (of_trace : IsOfTrace made.channels one) (request : Option Request) (gives : GivesFor handed given one request)
        (answered : (channel : ℕ) → channel < made.channels → AreAnswered (lane_of made channel) (answered_on channel (handed ++ one ∷ [])))
        (asks : (channel : ℕ) → requests_of (answered_on channel (handed ++ one ∷ [])) ≡ requests_of (answered_on channel handed) ++ requests_given channel (asked_in request)) where
      requests_then : (channel : ℕ) → requests_given channel (given ++ (asked_in request ++ gives.gives)) ≡ requests_of (answered_on channel (handed ++ one ∷ []))
      requests_then channel =
          filter_map-append (request_on channel) given (asked_in request ++ gives.gives)
          ∙ ap (λ (t : List Request). t ++ requests_given channel (asked_in request ++ gives.gives)) (was.requests channel)
          ∙ ap (λ (t : List Request). requests_of (answered_on channel handed) ++ t)
          (filter_map-append (request_on channel) (asked_in request) gives.gives
          ∙ ap (λ (t : List Request). requests_given channel (asked_in request) ++ t) (gives.no_requests channel)
          ∙ append-nil (requests_given channel (asked_in request)))
          ∙ sym (asks channel)

      with_told : (told : List Happening) → Tells made handed one told → OneMore one
      with_told told tells = record {
        of_trace = of_trace;
        more = asked_in request ++ gives.gives;
        told = told;
        tells = tells;
        answered = answered;
        requests = requests_then;
        flows = gives.flows;
        others = gives.others;
      }

    -- ---- an input

    module _ (channel : ℕ) (within : channel < made.channels) (one : AnsweredInput) (is : IsAnswer (lane_of made channel) (answered_on channel handed) one.input one.answer)
        (bytes : HasBytes one.input) where
      abbrev it : HandedIn
      it = came channel one

      answers_of : (on : ℕ) → answered_on on (handed ++ came channel one ∷ []) ≡ answered_on on handed ++ one_if (channel == on) one
      answers_of on =
          filter_map-append (came_on on) handed (came channel one ∷ []) ∙ ap (λ (t : List AnsweredInput). answered_on on handed ++ t) (came-on on channel one)

      answers_here : answered_on channel (handed ++ came channel one ∷ []) ≡ answered_on channel handed ++ one ∷ []
      answers_here = answers_of channel ∙ ap (λ (b : Bool). answered_on channel handed ++ one_if b one) (eq-eqb channel channel refl)

      answers_elsewhere : (on : ℕ) → channel ≢ on → answered_on on (handed ++ came channel one ∷ []) ≡ answered_on on handed
      answers_elsewhere on apart =
          answers_of on ∙ ap (λ (b : Bool). answered_on on handed ++ one_if b one) (ne_eqb channel on apart) ∙ append-nil (answered_on on handed)

      all_here : AreAnswered (lane_of made channel) (answered_on channel handed ++ one ∷ [])
      all_here = answered-more (lane_of made channel) (answered_on channel handed) one (was.answered channel within) is

      answered_then : (on : ℕ) → on < made.channels → AreAnswered (lane_of made on) (answered_on on (handed ++ came channel one ∷ []))
      answered_then on below = elim (cases_eq channel on) [
        | inl same ↦
            subst (λ (n : ℕ). AreAnswered (lane_of made n) (answered_on n (handed ++ came channel one ∷ []))) same
            (subst (AreAnswered (lane_of made channel)) (sym answers_here) all_here)
        | inr apart ↦ subst (AreAnswered (lane_of made on)) (sym (answers_elsewhere on apart)) (was.answered on below)
      ]

      -- its request
      asks_then : (request : Option Request) → ((admitted : Admitted) → admitted_by one.answer ≡ Some admitted → request ≡ admitted.request)
          → (admitted_by one.answer ≡ None → request ≡ None) → ((r : Request) → request ≡ Some r → r.channel ≡ channel) → (on : ℕ)
          → requests_of (answered_on on (handed ++ came channel one ∷ [])) ≡ requests_of (answered_on on handed) ++ requests_given on (asked_in request)
      asks_then request some none of_channel on =
          ap requests_of (answers_of on) ∙ requests_of-append (answered_on on handed) (one_if (channel == on) one)
          ∙ ap (λ (t : List Request). requests_of (answered_on on handed) ++ t) (by_flag (channel == on) ∙ sym (asked-on on channel request of_channel))
        where
          by_flag : (own : Bool) → requests_of (one_if own one) ≡ (if own then request_in request else [])
          by_flag true = requests-one one.answer one.input request some none
          by_flag false = refl

      -- ---- of which nothing is admitted

      tells_none : (answer_reply : Reply) → TellsInput made handed channel one (Took (name_of_input channel one.input) answer_reply ∷ []) → admitted_by one.answer ≡ None
          → OneMore (came channel one)
      tells_none answer_reply tells none =
          let gives = gives_none (came channel one) (ap (option_map (arrives_on channel)) none) in
          with_told (came channel one) within None gives answered_then
          (asks_then None (λ admitted gives. let wrong = sym none ∙ gives in absurd cc) (λ _. refl) (λ r asked. absurd cc))
          (Took (name_of_input channel one.input) answer_reply ∷ []) tells

      -- ---- of which a segment is admitted

      module _ (admitted : Admitted) (admits : one.answer ≡ Ok (Some admitted)) where
        exists : admitted.flow < length made.records
        exists =
            admitted-flow (lane_of made channel) (answered_on channel handed) one.input admitted
            (subst (IsAnswer (lane_of made channel) (answered_on channel handed) one.input) admits is)

        abbrev by : admitted_by one.answer ≡ Some admitted
        by = ap (λ (a : Answer). admitted_by a) admits

        carried : AreBytes admitted.segment.payload
        carried =
            let taken = answered_on channel handed in
            let all = taken ++ one ∷ [] in
            (admitted-payload (lane_of made channel) all (length taken) one.input one.answer admitted all_here
            (all_here (length taken) one (slice_get-at taken one [])) bytes by).bytes

        of_channel : (r : Request) → admitted.request ≡ Some r → r.channel ≡ channel
        of_channel r asked =
            admitted-channel (lane_of made channel) (answered_on channel handed) one.input admitted r
            (subst (IsAnswer (lane_of made channel) (answered_on channel handed) one.input) admits is) asked

        module _ (flow_record : FlowRecord) (here : slice_get made.records admitted.flow ≡ Some flow_record) where
          abbrev its_comings : List Coming
          its_comings = came_to made handed admitted.flow flow_record

          telling : (told : Told) × IsTold (flow_setup made admitted.flow flow_record) its_comings channel admitted.segment told
          telling =
              some_told any_header (flow_setup made admitted.flow flow_record) its_comings (frames_of admitted.flow given) (was.flows admitted.flow flow_record here)
              channel admitted.segment carried

          rightly : IsToldRightly made handed channel one.answer (reply.Admitted admitted.flow admitted.segment.head.sequence telling.0)
          rightly r other at gives =
              let same : flow_record ≡ r = same_Some flow_record r (sym here ∙ at) in
              let also : admitted ≡ other = same_Some admitted other (sym by ∙ gives) in
              subst (λ (r : FlowRecord). IsTold (begun_with made admitted.flow r (flow_inputs (length made.records) handed)) (came_to made handed admitted.flow r) channel other.segment telling.0) same
              (subst (λ (a : Admitted). IsTold (begun_with made admitted.flow flow_record (flow_inputs (length made.records) handed)) its_comings channel a.segment telling.0) also
              (subst (λ (s : FlowSetup). IsTold s its_comings channel admitted.segment telling.0) (sym (begun_once made made.channels handed was.each admitted.flow flow_record)) telling.1))

          takes_segment : OneMore (came channel one)
          takes_segment =
              let it = came channel one in
              let gives = gives_some it admitted.request admitted.flow flow_record here (on_channel channel admitted.segment) (ap (option_map (arrives_on channel)) by) carried in
              let after = handed ++ it ∷ [] in
              let each = All-push (IsOfTrace made.channels) handed it was.each within in
              let stands = stands_so after admitted.flow flow_record (frames_of admitted.flow (given ++ (asked_in admitted.request ++ gives.gives))) each here
              (gives.flows admitted.flow flow_record here) in
              let told = Took (name_of_input channel one.input) (reply.Admitted admitted.flow admitted.segment.head.sequence telling.0) ∷ stands.0 in
              let tells : TellsInput made handed channel one told = record {
                reply = reply.Admitted admitted.flow admitted.segment.head.sequence telling.0;
                says = (admitted, admits, refl, refl);
                rightly = rightly;
                standing = stands.0;
                stands = stands.1;
                are = refl;
              } in
              with_told it within admitted.request gives answered_then
              (asks_then admitted.request (λ other gives. ap (λ (a : Admitted). a.request) (same_Some admitted other (sym by ∙ gives)))
              (λ none. let wrong = sym by ∙ none in absurd cc) of_channel) told tells

      pub takes_one : OneMore (came channel one)
      takes_one = by_answer one.answer refl where
        by_answer : (answer : Answer) → one.answer ≡ answer → OneMore (came channel one)
        by_answer (Ok None) answers =
            tells_none reply.Granted
            (record { reply = reply.Granted; says = answers; rightly = tt; standing = []; stands = refl; are = refl }) (ap (λ (a : Answer). admitted_by a) answers)
        by_answer (Err refusal) answers =
            tells_none (reply.Refused refusal)
            (record { reply = reply.Refused refusal; says = answers; rightly = tt; standing = []; stands = refl; are = refl }) (ap (λ (a : Answer). admitted_by a) answers)
        by_answer (Ok (Some admitted)) answers =
            let found = element_at made.records admitted.flow (exists admitted answers) in
            takes_segment admitted answers found.0 found.1

    -- whatever input comes, it has an answer, and something happens
    pub takes_input : (channel : ℕ) (input : Input) → channel < made.channels → HasBytes input
        → (one : HandedIn) × (entry_of one ≡ Some (entry.came channel input)) × OneMore one
    takes_input channel input within bytes =
        let answer = answer-to made.channels (lane_of made channel) can (answered_on channel handed) (was.answered channel within) input bytes in
        let one : AnsweredInput = record { input = input; answer = answer.0 } in
        (came channel one, refl, takes_one channel within one answer.1 bytes)

    -- ---- a decision

    module _ (flow : ℕ) (decision : FlowDecision) (of_trace : IsGapDecision decision) where
      same_answers : (on : ℕ) → answered_on on (handed ++ decided flow decision ∷ []) ≡ answered_on on handed
      same_answers on = filter_map-append (came_on on) handed (decided flow decision ∷ []) ∙ append-nil (answered_on on handed)

      answered_still : (on : ℕ) → on < made.channels → AreAnswered (lane_of made on) (answered_on on (handed ++ decided flow decision ∷ []))
      answered_still on below = subst (AreAnswered (lane_of made on)) (sym (same_answers on)) (was.answered on below)

      asks_nothing : (on : ℕ) → requests_of (answered_on on (handed ++ decided flow decision ∷ []))
          ≡ requests_of (answered_on on handed) ++ requests_given on (asked_in None)
      asks_nothing on = ap requests_of (same_answers on) ∙ sym (append-nil (requests_of (answered_on on handed)))

      abbrev names_one : Bool
      names_one = nat_lt flow (length made.records) && is_in_range decision

      decides_with : (gives : GivesFor handed given (decided flow decision) None) (told : List Happening) → TellsDecision made handed flow decision told
          → OneMore (decided flow decision)
      decides_with gives told tells = with_told (decided flow decision) of_trace None gives answered_still asks_nothing told tells

      -- one that is passed over
      passes_over : names_one ≡ false → OneMore (decided flow decision)
      passes_over out =
          decides_with (gives_none (decided flow decision) (ap (λ (b : Bool). if b then Some (decides_of flow decision) else None) out)) (Decided flow decision_reply.PassedOver ∷ [])
          (record { reply = decision_reply.PassedOver; passed_over = (λ _. out, λ _. refl); rightly = tt; standing = []; stands = refl; are = refl })

      -- one that is taken
      module _ (names : names_one ≡ true) (flow_record : FlowRecord) (here : slice_get made.records flow ≡ Some flow_record) where
        no_segment : Brings AreBytes (decision_event decision)
        no_segment = by_decision decision of_trace where
          by_decision : (d : FlowDecision) → IsGapDecision d → Brings AreBytes (decision_event d)
          by_decision Gap is = tt
          by_decision (GapTo number) is = tt
          by_decision (SkipTo number) is = absurd is

        loss : (lost : Bool) × IsToldLost (flow_setup made flow flow_record) (came_to made handed flow flow_record) (decision_event decision) lost
        loss =
            some_loss any_header (flow_setup made flow flow_record) (came_to made handed flow flow_record) (frames_of flow given) (was.flows flow flow_record here)
            (decision_event decision) no_segment

        loss_rightly : IsLossToldRightly made handed flow decision (decision_reply.Taken loss.0)
        loss_rightly r at =
            let same : flow_record ≡ r = same_Some flow_record r (sym here ∙ at) in
            subst (λ (r : FlowRecord). IsToldLost (begun_with made flow r (flow_inputs (length made.records) handed)) (came_to made handed flow r) (decision_event decision) loss.0) same
            (subst (λ (s : FlowSetup). IsToldLost s (came_to made handed flow flow_record) (decision_event decision) loss.0)
            (sym (begun_once made made.channels handed was.each flow flow_record)) loss.1)

        decides : OneMore (decided flow decision)
        decides =
            let it = decided flow decision in
            let gives = gives_some it None flow flow_record here (handed_in (decision_event decision))
            (ap (λ (b : Bool). if b then Some (decides_of flow decision) else None) names) no_segment in
            let each = All-push (IsOfTrace made.channels) handed it was.each of_trace in
            let stands = stands_so (handed ++ it ∷ []) flow flow_record (frames_of flow (given ++ (asked_in None ++ gives.gives))) each here (gives.flows flow flow_record here) in
            decides_with gives (Decided flow (decision_reply.Taken loss.0) ∷ stands.0)
            (record {
              reply = decision_reply.Taken loss.0;
              passed_over = (λ passed. absurd cc, λ out. absurd (false≢true (sym out ∙ names)));
              rightly = loss_rightly;
              standing = stands.0;
              stands = stands.1;
              are = refl;
            })

      pub takes_decision : OneMore (decided flow decision)
      takes_decision = by_flag names_one refl where
        within_of : (a b : Bool) → (a && b) ≡ true → a ≡ true
        within_of true b is = refl
        within_of false b is = is

        by_flag : (names : Bool) → names_one ≡ names → OneMore (decided flow decision)
        by_flag false is = passes_over is
        by_flag true is =
            let found = element_at made.records flow (ltb-true flow (length made.records) (within_of (nat_lt flow (length made.records)) (is_in_range decision) is)) in
            decides is found.0 found.1
