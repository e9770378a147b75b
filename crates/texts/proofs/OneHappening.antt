-- What happens for the lines of a trace is one thing.
use Rattle.std.proofs.Common.{◌≡◌, ℕ, ◌<◌, ◌≤◌, ◌⊎◌, inl, inr, Bool, false, Option, Some, None, Ok, All, List, [], ◌∷◌, ◌++◌, length, map, filter_map, get_or, refl, sym, ap, subst, ◌∙◌, arith}
use Rattle.std.specs.Prelude.{◌↔◌, ◌&&◌, nat_lt, MatchOption, slice_get}
use Rattle.std.specs.List.{cons_option}
use Rattle.std.proofs.lemmas.Bool.{eq-eqb}
use Rattle.std.proofs.lemmas.List.{append_cancel_left, same_from_push}
use Rattle.std.proofs.lemmas.List.Elements.{All-nil, All-pop, filter_map-append}
use Rattle.std.proofs.lemmas.Option.{slice_get_cases}
use Rattle.docsis_wire.proofs.StreamPlaces.{element_at}
use Rattle.flow_core.specs.declared.counts.FlowCounts.{FlowCounts}
use Rattle.flow_records.specs.declared.decision.Decision.{Decision}
use Rattle.flow_records.specs.declared.record.FlowRecord.{FlowRecord}
use Rattle.lane.specs.declared.admitted.Admitted.{Admitted}
use Rattle.lane.specs.declared.input.Input.{Input}
use Rattle.lane.specs.declared.sids.SidRow.{SidRow}
use Rattle.lane.specs.Inputs.{Answer, AnsweredInput, IsAnswer, AreAnswered}
use Rattle.lane.specs.Report.{admitted_by}
use Rattle.lane.specs.Rows.{CanBeOpenedWithin}
use Rattle.lane.proofs.LaneTaking.{answered-before, answered-last}
use Rattle.lane.proofs.OneLaneAnswer.{one-answer}
use Rattle.loss_rule.specs.declared.rule.LossRule.{LossRule}
use Rattle.loss_rule.specs.Rule.{Coming}
use Rattle.bonded_flows.specs.declared.decision.FlowDecision.{FlowDecision}
use Rattle.bonded_flows.specs.declared.decision.FlowDecision.TheVariants.{Gap, GapTo, SkipTo}
use Rattle.bonded_flows.specs.declared.told.Told.{Told}
use Rattle.bonded_flows.specs.ByRule.{is_in_range, decision_event, HasGivenByRule}
use Rattle.bonded_flows.specs.FlowSetup.{FlowSetup}
use Rattle.bonded_flows.specs.Table.{TableSetup, flow_setup}
use Rattle.bonded_flows.proofs.OneAnswer.{told-once, lost-once}
use Rattle.consumer.specs.declared.given.Given.{Given}
use Rattle.consumer.specs.Given.{frame_of, frames_of, request_on, requests_given}
use Rattle.receiver.specs.declared.reply.Reply.{Reply}
use Rattle.receiver.specs.declared.reply.Reply.TheVariants as reply
use Rattle.receiver.specs.declared.reply.DecisionReply.{DecisionReply}
use Rattle.receiver.specs.declared.reply.DecisionReply.TheVariants as decision_reply
use Rattle.receiver.specs.declared.width.Width.{Width}
use Rattle.receiver.specs.Entries as entry
use Rattle.receiver.specs.Entries.{Entry}
use Rattle.receiver.specs.HandedIn.{HandedIn, came, decided, restarted, came_on, answered_on, flow_inputs, lane_of, made_of, begun_with, came_since}
use Rattle.receiver.specs.Receiving.{Says, IsToldRightly, IsLossToldRightly}
use Rattle.receiver.specs.Replaying.{decision_entry, entry_of}
use Rattle.receiver.proofs.AnsweredInputs.{admitted-flow, one_if, came-on}
use Rattle.receiver.proofs.HeldSegments.{holds-once}
use Rattle.receiver.proofs.InputsTaken.{passed-over}
use Rattle.text_lines.specs.Capacities.{default_capacity}
use Rattle.text_lines.proofs.LinesReadOneWay.{one_reading}
use Rattle.texts.specs.declared.follow.happening.Happening.{Happening}
use Rattle.texts.specs.declared.follow.happening.Happening.TheVariants.{Gave, Took, Decided, Stands}
use Rattle.texts.specs.AnyHeader.{any_header}
use Rattle.texts.specs.FollowedReport.{came_to}
use Rattle.texts.specs.Happening.{name_of_input}
use Rattle.texts.specs.Happened.{IsOfTrace, AreHandedIn, IsGivenSoFar, IsStanding, TellsStanding, TellsStandingAfter, flow_admitted, flow_decided, TellsInput, TellsDecision, Tells, HasHappened, nothing, one_more, HasHappenedFor, HappenedBy}
use Rattle.texts.specs.HappenAlike.{AreGivenAlike, HappenAlike, alike_in_nothing, alike_in_more}
use Rattle.texts.specs.Trace.Line.{shape_of}
use Rattle.texts.specs.Trace.Place.{Said, nothing_said_in, trace_format}
use Rattle.texts.proofs.OneTrace.{trace_is_determined}
use Rattle.texts.proofs.TraceChecks.{read_passes_in, read_keeps_shape, PassesChecks}

-- ---- what is an entry

-- what a trace hands in is an entry
pub entry_there : (channels : ℕ) (one : HandedIn) → IsOfTrace channels one → (e : Entry) × (entry_of one ≡ Some e)
entry_there channels (came channel one) of_trace = (entry.came channel one.input, refl)
entry_there channels (decided flow Gap) of_trace = (entry.decided (record { flow = flow; upto = None }), refl)
entry_there channels (decided flow (GapTo number)) of_trace = (entry.decided (record { flow = flow; upto = Some number }), refl)
entry_there channels (decided flow (SkipTo number)) of_trace = absurd of_trace
entry_there channels (restarted flow first) of_trace = absurd of_trace

-- a decision that is this entry is one
decision_in : Option Entry → Decision
decision_in (Some (entry.decided decision)) = decision
decision_in (Some (entry.came channel input)) = record { flow = 0; upto = None }
decision_in None = record { flow = 0; upto = None }

number_in : Option ℕ → ℕ
number_in (Some number) = number
number_in None = 0

pub same_decision : (flow other : ℕ) (decision another : FlowDecision) (e : Entry) → decision_entry flow decision ≡ Some e → decision_entry other another ≡ Some e
    → decided flow decision ≡ decided other another
unfolding decision_in number_in
same_decision flow other Gap Gap e is also = ap (λ (o : Option Entry). decided (decision_in o).flow Gap) (is ∙ sym also)
same_decision flow other Gap (GapTo number) e is also =
    let none : None ≡ Some number = ap (λ (o : Option Entry). (decision_in o).upto) (is ∙ sym also) in absurd cc
same_decision flow other (GapTo number) Gap e is also =
    let none : Some number ≡ None = ap (λ (o : Option Entry). (decision_in o).upto) (is ∙ sym also) in absurd cc
same_decision flow other (GapTo number) (GapTo another) e is also =
    ap (λ (o : Option Entry). decided (decision_in o).flow (GapTo (number_in (decision_in o).upto))) (is ∙ sym also)
same_decision flow other (SkipTo number) another e is also = absurd cc
same_decision flow other Gap (SkipTo number) e is also = absurd cc
same_decision flow other (GapTo number) (SkipTo another) e is also = absurd cc

pub no_decision : (flow : ℕ) (decision : FlowDecision) (channel : ℕ) (input : Input) → decision_entry flow decision ≡ Some (entry.came channel input) → ⊥
no_decision flow Gap channel input is = absurd cc
no_decision flow (GapTo number) channel input is = absurd cc
no_decision flow (SkipTo number) channel input is = absurd cc

-- what came to a flow gives one thing, before its close
abbrev pub GivesOneSoFar : Type 0
GivesOneSoFar =
    (check : List ℕ → Bool) (setup : FlowSetup) (comings : List Coming) (frames others : List (List ℕ)) (counts more : FlowCounts)
    → HasGivenByRule check setup comings frames counts → HasGivenByRule check setup comings others more → (frames ≡ others) × (counts ≡ more)

module _ (made : TableSetup) (can : CanBeOpenedWithin made.channels made.rows (length made.records)) (gives : GivesOneSoFar) where
  -- ---- what is given

  given_alike : (handed : List HandedIn) (given others : List Given) → IsGivenSoFar made handed given → IsGivenSoFar made handed others → AreGivenAlike given others
  given_alike handed given others is also = record {
    frames = λ k. of_flow k (slice_get_cases made.records k).1;
    requests = λ channel. is.requests channel ∙ sym (also.requests channel);
  } where
    of_flow : (k : ℕ)
        → ((flow_record : FlowRecord) × (k < length made.records) × (slice_get made.records k ≡ Some flow_record) × (get_or made.records k flow_record ≡ flow_record))
        ⊎ ((length made.records ≤ k) × (slice_get made.records k ≡ None)) → frames_of k given ≡ frames_of k others
    of_flow k (inl one) =
        let first = is.flows k one.0 one.2 in
        let second = also.flows k one.0 one.2 in
        (gives any_header (flow_setup made k one.0) (came_to made handed k one.0) (frames_of k given) (frames_of k others) first.0 second.0 first.1 second.1).0
    of_flow k (inr past) = is.others k past.0 ∙ sym (also.others k past.0)

  -- where the same was given before, what is given more is the same
  more_alike : (given others more also : List Given) → AreGivenAlike given others → AreGivenAlike (given ++ more) (others ++ also) → AreGivenAlike more also
  more_alike given others more also before after = record {
    frames = λ k.
        append_cancel_left (frames_of k given) (frames_of k more) (frames_of k also)
        (sym (filter_map-append (frame_of k) given more) ∙ after.frames k ∙ filter_map-append (frame_of k) others also
        ∙ ap (λ (t : List (List ℕ)). t ++ frames_of k also) (sym (before.frames k)));
    requests = λ channel.
        append_cancel_left (requests_given channel given) (requests_given channel more) (requests_given channel also)
        (sym (filter_map-append (request_on channel) given more) ∙ after.requests channel ∙ filter_map-append (request_on channel) others also
        ∙ ap (λ t. t ++ requests_given channel also) (sym (before.requests channel)));
  }

  -- ---- how a flow stands

  one_standing : (handed : List HandedIn) (flow : ℕ) (flow_record : FlowRecord) (expected held other more : ℕ)
      → IsStanding made handed flow flow_record expected held → IsStanding made handed flow flow_record other more → (expected ≡ other) × (held ≡ more)
  one_standing handed flow flow_record expected held other more is also =
      let setup = begun_with made flow flow_record (flow_inputs (length made.records) handed) in
      let comings = came_since made flow flow_record (flow_inputs (length made.records) handed) in
      let holds = is.holds in (
        is.number holds.events holds.lasts holds.fates holds.x holds.ruled holds.expected
            ∙ sym (also.number holds.events holds.lasts holds.fates holds.x holds.ruled holds.expected),
        holds-once setup comings held more is.holds also.holds,
      )

  one_telling : (handed : List HandedIn) (flow : ℕ) (told others : List Happening) → TellsStanding made handed flow told → TellsStanding made handed flow others
      → told ≡ others
  one_telling handed flow told others is also = of_record (slice_get made.records flow) is also where
    As : List Happening → Option FlowRecord → Type 0
    As told known =
        MatchOption known (told ≡ [])
        (λ flow_record. (expected : ℕ) × (held : ℕ) × (told ≡ Stands flow expected held ∷ []) × IsStanding made handed flow flow_record expected held)

    of_record : (known : Option FlowRecord) → As told known → As others known → told ≡ others
    of_record None is also = is ∙ sym also
    of_record (Some flow_record) is also =
        let same = one_standing handed flow flow_record is.0 is.1 also.0 also.1 is.3 also.3 in
        is.2 ∙ ap (λ (n : ℕ). Stands flow n is.1 ∷ []) same.0 ∙ ap (λ (n : ℕ). Stands flow also.0 n ∷ []) same.1 ∙ sym also.2

  one_telling_after : (handed : List HandedIn) (flow : Option ℕ) (told others : List Happening) → TellsStandingAfter made handed flow told
      → TellsStandingAfter made handed flow others → told ≡ others
  one_telling_after handed None told others is also = is ∙ sym also
  one_telling_after handed (Some flow) told others is also = one_telling handed flow told others is also

  -- ---- what became of an input

  -- what came on the channel of an input that is handed in
  own_inputs : (handed : List HandedIn) (channel : ℕ) (one : AnsweredInput) → answered_on channel (handed ++ came channel one ∷ []) ≡ answered_on channel handed ++ one ∷ []
  own_inputs handed channel one =
      filter_map-append (came_on channel) handed (came channel one ∷ [])
      ∙ ap (λ (t : List AnsweredInput). answered_on channel handed ++ t) (came-on channel channel one ∙ ap (λ (b : Bool). one_if b one) (eq-eqb channel channel refl))

  module _ (handed : List HandedIn) (channel : ℕ) (within : channel < made.channels) where
    pub answered_with : (one : AnsweredInput) (given : List Given) → IsGivenSoFar made (handed ++ came channel one ∷ []) given
        → AreAnswered (lane_of made channel) (answered_on channel handed ++ one ∷ [])
    answered_with one given so_far = subst (AreAnswered (lane_of made channel)) (own_inputs handed channel one) (so_far.answered channel within)

    pub its_answer : (one : AnsweredInput) (given : List Given) → IsGivenSoFar made (handed ++ came channel one ∷ []) given
        → IsAnswer (lane_of made channel) (answered_on channel handed) one.input one.answer
    its_answer one given so_far = answered-last (lane_of made channel) (answered_on channel handed) one (answered_with one given so_far)

    -- the same input has the same answer
    same_answered : (one other : AnsweredInput) (given others : List Given) → one.input ≡ other.input → IsGivenSoFar made (handed ++ came channel one ∷ []) given
        → IsGivenSoFar made (handed ++ came channel other ∷ []) others → one ≡ other
    same_answered one other given others same is also =
        let before = answered-before (lane_of made channel) (answered_on channel handed) one (answered_with one given is) in
        let answers = one-answer made.channels (lane_of made channel) can (answered_on channel handed) before other.input one.answer other.answer
        (subst (λ (input : Input). IsAnswer (lane_of made channel) (answered_on channel handed) input one.answer) same (its_answer one given is))
        (its_answer other others also) in
        both same answers
      where
        both : one.input ≡ other.input → one.answer ≡ other.answer → one ≡ other
        both inputs answers =
            let made_of_both : Input → Answer → AnsweredInput = λ input answer. record { input = input; answer = answer } in
            ap (λ (input : Input). made_of_both input one.answer) inputs ∙ ap (λ (answer : Answer). made_of_both other.input answer) answers

    -- what is told of the segment that is admitted
    one_told : (answer : Answer) (flow sequence : ℕ) (told other : Told) (admitted : Admitted) → admitted.flow < length made.records → answer ≡ Ok (Some admitted)
        → flow ≡ admitted.flow → IsToldRightly made handed channel answer (reply.Admitted flow sequence told)
        → IsToldRightly made handed channel answer (reply.Admitted flow sequence other) → told ≡ other
    one_told answer flow sequence told other admitted exists is of_flow right also =
        let found = element_at made.records flow (subst (λ (k : ℕ). k < length made.records) (sym of_flow) exists) in
        let by = ap (λ (a : Answer). admitted_by a) is in
        told-once (begun_with made flow found.0 (flow_inputs (length made.records) handed)) (came_since made flow found.0 (flow_inputs (length made.records) handed))
        channel admitted.segment told other (right found.0 admitted found.1 by) (also found.0 admitted found.1 by)

    one_reply : (input : Input) (answer : Answer) (one other : Reply) → IsAnswer (lane_of made channel) (answered_on channel handed) input answer
        → Says one answer → Says other answer → IsToldRightly made handed channel answer one → IsToldRightly made handed channel answer other → one ≡ other
    one_reply input answer reply.Granted reply.Granted is says also right rightly = refl
    one_reply input answer reply.Granted (reply.Refused refusal) is says also right rightly = absurd cc
    one_reply input answer reply.Granted (reply.Admitted flow sequence told) is says also right rightly = let same = sym says ∙ also.1 in absurd cc
    one_reply input answer (reply.Refused refusal) reply.Granted is says also right rightly = absurd cc
    one_reply input answer (reply.Refused refusal) (reply.Refused other) is says also right rightly = let same = sym says ∙ also in cc
    one_reply input answer (reply.Refused refusal) (reply.Admitted flow sequence told) is says also right rightly = let same = sym says ∙ also.1 in absurd cc
    one_reply input answer (reply.Admitted flow sequence told) reply.Granted is says also right rightly = let same = sym says.1 ∙ also in absurd cc
    one_reply input answer (reply.Admitted flow sequence told) (reply.Refused refusal) is says also right rightly = let same = sym says.1 ∙ also in absurd cc
    one_reply input answer (reply.Admitted flow sequence told) (reply.Admitted other number more) is says also right rightly =
        let admits = sym says.1 ∙ also.1 in
        let same : says.0 ≡ also.0 = cc in
        let flows : other ≡ flow = also.2 ∙ ap (λ (a : Admitted). a.flow) (sym same) ∙ sym says.2 in
        let numbers : number ≡ sequence = also.3 ∙ ap (λ (a : Admitted). a.segment.head.sequence) (sym same) ∙ sym says.3 in
        let exists = admitted-flow (lane_of made channel) (answered_on channel handed) input says.0
        (subst (IsAnswer (lane_of made channel) (answered_on channel handed) input) says.1 is) in
        let there : IsToldRightly made handed channel answer (reply.Admitted flow sequence more) =
        subst (λ (k : ℕ). IsToldRightly made handed channel answer (reply.Admitted k sequence more)) flows rightly in
        let tellings = one_told answer flow sequence told more says.0 exists says.1 says.2 right there in
        ap (λ (t : Told). reply.Admitted flow sequence t) tellings ∙ ap (λ (n : ℕ). reply.Admitted flow n more) (sym numbers)
        ∙ ap (λ (k : ℕ). reply.Admitted k number more) (sym flows)

  pub one_input : (handed : List HandedIn) (channel : ℕ) (one : AnsweredInput) (told others : List Happening) (given : List Given) → channel < made.channels
      → IsGivenSoFar made (handed ++ came channel one ∷ []) given → TellsInput made handed channel one told → TellsInput made handed channel one others → told ≡ others
  one_input handed channel one told others given within so_far is also =
      let same = one_reply handed channel within one.input one.answer is.reply also.reply (its_answer handed channel within one given so_far) is.says also.says
      is.rightly also.rightly in
      let after = handed ++ came channel one ∷ [] in
      let standing = one_telling_after after (flow_admitted also.reply) is.standing also.standing
      (subst (λ (r : Reply). TellsStandingAfter made after (flow_admitted r) is.standing) same is.stands) also.stands in
      is.are ∙ ap (λ (r : Reply). Took (name_of_input channel one.input) r ∷ is.standing) same
      ∙ ap (λ (t : List Happening). Took (name_of_input channel one.input) also.reply ∷ t) standing ∙ sym also.are

  -- ---- what became of a decision

  abbrev PassesOver : ℕ → FlowDecision → DecisionReply → Type 0
  PassesOver flow decision reply = reply ≡ decision_reply.PassedOver ↔ ((nat_lt flow (length made.records) && is_in_range decision) ≡ false)

  one_loss : (handed : List HandedIn) (flow : ℕ) (decision : FlowDecision) (lost other : Bool)
      → ((flow_record : FlowRecord) × (flow < length made.records) × (slice_get made.records flow ≡ Some flow_record) × (get_or made.records flow flow_record ≡ flow_record))
      ⊎ ((length made.records ≤ flow) × (slice_get made.records flow ≡ None)) → PassesOver flow decision (decision_reply.Taken lost)
      → IsLossToldRightly made handed flow decision (decision_reply.Taken lost) → IsLossToldRightly made handed flow decision (decision_reply.Taken other) → lost ≡ other
  one_loss handed flow decision lost other (inl found) passes is also =
      lost-once (begun_with made flow found.0 (flow_inputs (length made.records) handed)) (came_since made flow found.0 (flow_inputs (length made.records) handed))
      (decision_event decision) lost other (is found.0 found.2) (also found.0 found.2)
  one_loss handed flow decision lost other (inr past) passes is also =
      let passed = passes.1 (passed-over (length made.records) flow decision (inl past.0)) in absurd cc

  one_decision_reply : (handed : List HandedIn) (flow : ℕ) (decision : FlowDecision) (one other : DecisionReply) → PassesOver flow decision one → PassesOver flow decision other
      → IsLossToldRightly made handed flow decision one → IsLossToldRightly made handed flow decision other → one ≡ other
  one_decision_reply handed flow decision decision_reply.PassedOver decision_reply.PassedOver passes passing is also = refl
  one_decision_reply handed flow decision decision_reply.PassedOver (decision_reply.Taken lost) passes passing is also = sym (passing.1 (passes.0 refl))
  one_decision_reply handed flow decision (decision_reply.Taken lost) decision_reply.PassedOver passes passing is also = passes.1 (passing.0 refl)
  one_decision_reply handed flow decision (decision_reply.Taken lost) (decision_reply.Taken other) passes passing is also =
      ap (λ (b : Bool). decision_reply.Taken b) (one_loss handed flow decision lost other (slice_get_cases made.records flow).1 passes is also)

  pub one_decision : (handed : List HandedIn) (flow : ℕ) (decision : FlowDecision) (told others : List Happening) → TellsDecision made handed flow decision told
      → TellsDecision made handed flow decision others → told ≡ others
  one_decision handed flow decision told others is also =
      let same = one_decision_reply handed flow decision is.reply also.reply is.passed_over also.passed_over is.rightly also.rightly in
      let after = handed ++ decided flow decision ∷ [] in
      let standing = one_telling_after after (flow_decided flow also.reply) is.standing also.standing
      (subst (λ (r : DecisionReply). TellsStandingAfter made after (flow_decided flow r) is.standing) same is.stands) also.stands in
      is.are ∙ ap (λ (r : DecisionReply). Decided flow r ∷ is.standing) same ∙ ap (λ (t : List Happening). Decided flow also.reply ∷ t) standing ∙ sym also.are

  -- ---- one thing after another

  one_told_of : (handed : List HandedIn) (one : HandedIn) (told others : List Happening) (given : List Given) → IsOfTrace made.channels one
      → IsGivenSoFar made (handed ++ one ∷ []) given → Tells made handed one told → Tells made handed one others → told ≡ others
  one_told_of handed (came channel one) told others given of_trace so_far is also = one_input handed channel one told others given of_trace so_far is also
  one_told_of handed (decided flow decision) told others given of_trace so_far is also = one_decision handed flow decision told others is also
  one_told_of handed (restarted flow first) told others given of_trace so_far is also = absurd of_trace

  -- what is the same entry is the same that is handed in
  same_handed : (handed : List HandedIn) (one other : HandedIn) (e : Entry) (given others : List Given) → IsOfTrace made.channels one → entry_of one ≡ Some e
      → entry_of other ≡ Some e → IsGivenSoFar made (handed ++ one ∷ []) given → IsGivenSoFar made (handed ++ other ∷ []) others → one ≡ other
  same_handed handed (came channel one) (came another other) e given others within is also so_far so_too =
      let same : Some (entry.came channel one.input) ≡ Some (entry.came another other.input) = is ∙ sym also in
      let channels : channel ≡ another = cc in
      let inputs : one.input ≡ other.input = cc in
      let there : IsGivenSoFar made (handed ++ came channel other ∷ []) others =
      subst (λ (c : ℕ). IsGivenSoFar made (handed ++ came c other ∷ []) others) (sym channels) so_too in
      ap (λ (o : AnsweredInput). came channel o) (same_answered handed channel within one other given others inputs so_far there)
      ∙ ap (λ (c : ℕ). came c other) channels
  same_handed handed (came channel one) (decided flow decision) e given others within is also so_far so_too =
      absurd (no_decision flow decision channel one.input (also ∙ sym is))
  same_handed handed (came channel one) (restarted flow first) e given others within is also so_far so_too = absurd cc
  same_handed handed (decided flow decision) (came channel other) e given others within is also so_far so_too =
      absurd (no_decision flow decision channel other.input (is ∙ sym also))
  same_handed handed (decided flow decision) (decided another different) e given others within is also so_far so_too =
      same_decision flow another decision different e is also
  same_handed handed (decided flow decision) (restarted another first) e given others within is also so_far so_too = absurd cc
  same_handed handed (restarted flow first) other e given others within is also so_far so_too = absurd within

  -- the entries of what is handed in, where one thing more is
  pub entries_more : (handed : List HandedIn) (one : HandedIn) (e : Entry) → entry_of one ≡ Some e
      → filter_map entry_of (handed ++ one ∷ []) ≡ filter_map entry_of handed ++ e ∷ []
  entries_more handed one e is =
      filter_map-append entry_of handed (one ∷ []) ∙ ap (λ (o : Option Entry). filter_map entry_of handed ++ cons_option o []) is

  pub none_more : (entries : List Entry) (e : Entry) → [] ≡ entries ++ e ∷ [] → ⊥
  none_more [] e is = absurd cc
  none_more (first ∷ rest) e is = absurd cc

  -- what happened up to here is the same
  record AreAlike (handed others : List HandedIn) (given also : List Given) (happened happening : List Happening) : Type 0 where
    handed_same : handed ≡ others
    given_same : AreGivenAlike given also
    happened_same : HappenAlike happened happening

  -- one thing more
  alike_more : (handed others : List HandedIn) (given also given_more also_more : List Given) (happened happening told telling : List Happening) (one other : HandedIn) (e : Entry)
      → AreAlike handed others given also happened happening → IsOfTrace made.channels one → entry_of one ≡ Some e → entry_of other ≡ Some e
      → IsGivenSoFar made (handed ++ one ∷ []) (given ++ given_more) → IsGivenSoFar made (others ++ other ∷ []) (also ++ also_more)
      → Tells made handed one told → Tells made others other telling
      → AreAlike (handed ++ one ∷ []) (others ++ other ∷ []) (given ++ given_more) (also ++ also_more)
      (happened ++ (map Gave given_more ++ told)) (happening ++ (map Gave also_more ++ telling))
  alike_more handed others given also given_more also_more happened happening told telling one other e before of_trace is_entry its_entry so_far so_too tells tells_too =
      let here : IsGivenSoFar made (handed ++ other ∷ []) (also ++ also_more) =
      subst (λ (h : List HandedIn). IsGivenSoFar made (h ++ other ∷ []) (also ++ also_more)) (sym before.handed_same) so_too in
      let same = same_handed handed one other e (given ++ given_more) (also ++ also_more) of_trace is_entry its_entry so_far here in
      let same_one : IsGivenSoFar made (handed ++ one ∷ []) (also ++ also_more) =
      subst (λ (o : HandedIn). IsGivenSoFar made (handed ++ o ∷ []) (also ++ also_more)) (sym same) here in
      let all = given_alike (handed ++ one ∷ []) (given ++ given_more) (also ++ also_more) so_far same_one in
      let telling_here : Tells made handed one telling =
      subst (λ (o : HandedIn). Tells made handed o telling) (sym same) (subst (λ (h : List HandedIn). Tells made h other telling) (sym before.handed_same) tells_too) in
      let one_thing = one_told_of handed one told telling (given ++ given_more) of_trace so_far tells telling_here in
      record {
        handed_same = ap (λ (h : List HandedIn). h ++ one ∷ []) before.handed_same ∙ ap (λ (o : HandedIn). others ++ o ∷ []) same;
        given_same = all;
        happened_same =
            subst (λ (t : List Happening). HappenAlike (happened ++ (map Gave given_more ++ told)) (happening ++ (map Gave also_more ++ t))) one_thing
            (alike_in_more given_more also_more told before.happened_same (more_alike given also given_more also_more before.given_same all));
      }

  same_happens : {handed others : List HandedIn} {given also : List Given} {happened happening : List Happening} → HasHappened made handed given happened
      → HasHappened made others also happening → All (IsOfTrace made.channels) handed → All (IsOfTrace made.channels) others
      → filter_map entry_of handed ≡ filter_map entry_of others → AreAlike handed others given also happened happening
  same_happens nothing nothing each each_too same =
      record { handed_same = refl; given_same = record { frames = λ k. refl; requests = λ channel. refl }; happened_same = alike_in_nothing }
  same_happens nothing (one_more {handed = others} more other telling after so_too tells_too) each each_too same =
      let its = entry_there made.channels other (All-pop (IsOfTrace made.channels) (others ++ other ∷ []) others (Some other) refl each_too).1 in
      absurd (none_more (filter_map entry_of others) its.0 (same ∙ entries_more others other its.0 its.1))
  same_happens (one_more {handed} more one told before so_far tells) nothing each each_too same =
      let its = entry_there made.channels one (All-pop (IsOfTrace made.channels) (handed ++ one ∷ []) handed (Some one) refl each).1 in
      absurd (none_more (filter_map entry_of handed) its.0 (sym same ∙ entries_more handed one its.0 its.1))
  same_happens (one_more {handed} {given} more one {happened} told before so_far tells) (one_more {handed = others} {given = also} also_more other {happened = happening} telling after so_too tells_too) each each_too same =
      let all = All-pop (IsOfTrace made.channels) (handed ++ one ∷ []) handed (Some one) refl each in
      let all_too = All-pop (IsOfTrace made.channels) (others ++ other ∷ []) others (Some other) refl each_too in
      let its = entry_there made.channels one all.1 in
      let its_too = entry_there made.channels other all_too.1 in
      let pushed = same_from_push (filter_map entry_of handed) (filter_map entry_of others) its.0 its_too.0
      (sym (entries_more handed one its.0 its.1) ∙ same ∙ entries_more others other its_too.0 its_too.1) in
      alike_more handed others given also more also_more happened happening told telling one other its.0
      (same_happens before after all.0 all_too.0 pushed.0) all.1 its.1 (its_too.1 ∙ ap (λ (e : Entry). Some e) (sym pushed.1)) so_far so_too tells tells_too

-- ---- for some lines

module _ (rule : LossRule) (width : Width) (gives : GivesOneSoFar) where
  -- what a receiver is made with for lines that say this
  abbrev made_for : Said → TableSetup
  made_for said = record { rule = rule; records = said.flows; channels = width.channels; rows = said.sids }

  -- what happened for what lines say, be it nothing
  record HappensFor (said : Said) (happened : List Happening) : Type 0 where
    handed : List HandedIn
    given : List Given
    has_happened : HasHappened (made_for said) handed given happened
    entries : AreHandedIn width.channels said.entries handed

  happens_for : (said : Said) (happened : List Happening) → ((said.entries ≡ []) × (happened ≡ [])) ⊎ HasHappenedFor rule width said happened → HappensFor said happened
  happens_for said happened (inl none) = record {
    handed = [];
    given = [];
    has_happened = subst (λ (h : List Happening). HasHappened (made_for said) [] [] h) (sym none.1) nothing;
    entries = record { each = All-nil (IsOfTrace width.channels); are = sym none.0 };
  }
  happens_for said happened (inr is) = record {
    handed = is.handed;
    given = is.given;
    has_happened =
        let with_both : List FlowRecord → List SidRow → TableSetup = λ records rows. record { rule = rule; records = records; channels = width.channels; rows = rows } in
        let same : made_of rule width.channels is.setup ≡ made_for said =
        ap (λ (records : List FlowRecord). with_both records is.setup.sids.items) is.is_setup.flows
        ∙ ap (λ (rows : List SidRow). with_both said.flows rows) is.is_setup.sids in
        subst (λ (made : TableSetup). HasHappened made is.handed is.given happened) same is.has_happened;
    entries = is.entries;
  }

  pub happens_once : (lines : List (List ℕ)) (happened others : List Happening) → HappenedBy rule width lines happened → HappenedBy rule width lines others
      → HappenAlike happened others
  happens_once lines happened others is also =
      let shape = shape_of width default_capacity in
      let some = width.some_channel in
      let same = one_reading trace_format trace_is_determined lines (nothing_said_in shape) also.said is.said also.read is.read in
      let passes : PassesChecks is.said = read_passes_in shape lines is.said (omega arith) (omega (arith, some)) is.read in
      let kept = read_keeps_shape shape lines is.said is.read in
      let can = subst (λ s. CanBeOpenedWithin s.channels is.said.sids (length is.said.flows)) kept passes.sids in
      let first = happens_for is.said happened is.happened_for in
      let second = happens_for is.said others
      (subst (λ (said : Said). ((said.entries ≡ []) × (others ≡ [])) ⊎ HasHappenedFor rule width said others) same also.happened_for) in
      (same_happens (made_for is.said) can gives first.has_happened second.has_happened first.entries.each second.entries.each
      (first.entries.are ∙ sym second.entries.are)).happened_same
