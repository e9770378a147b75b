-- What happens as a receiver is handed in what the lines of a trace say.
use Rattle.std.specs.Prelude.{◌≡◌, ◌<◌, ◌≤◌, ◌↔◌, ◌⊎◌, ◌-◌, ◌^◌, ◌∷◌, ◌&&◌, nat_lt, nat_le, ℕ, false, All, Option, Some, None, MatchOption, List, [], ◌++◌, length, map, filter, filter_map, slice_get}
use Rattle.bonded_flows.specs.ByRule.{is_in_range, HasGivenByRule}
use Rattle.bonded_flows.specs.Table.{TableSetup, flow_setup}
use Rattle.bonded_flows.specs.declared.decision.FlowDecision.{FlowDecision}
use Rattle.consumer.specs.declared.given.Given.{Given}
use Rattle.consumer.specs.Given.{frames_of, requests_given}
use Rattle.flow_core.specs.declared.counts.FlowCounts.{FlowCounts}
use Rattle.flow_records.specs.declared.record.FlowRecord.{FlowRecord}
use Rattle.lane.specs.Inputs.{AnsweredInput, AreAnswered}
use Rattle.lane.specs.Report.{requests_of}
use Rattle.loss_rule.specs.declared.rule.LossRule.{LossRule}
use Rattle.receiver.specs.declared.reply.Reply.{Reply}
use Rattle.receiver.specs.declared.reply.Reply.TheVariants as reply
use Rattle.receiver.specs.declared.reply.DecisionReply.{DecisionReply}
use Rattle.receiver.specs.declared.reply.DecisionReply.TheVariants as decision_reply
use Rattle.receiver.specs.declared.setup.Setup.{Setup}
use Rattle.receiver.specs.declared.width.Width.{Width}
use Rattle.receiver.specs.Entries.{Entry}
use Rattle.receiver.specs.HandedIn.{HandedIn, came, decided, restarted, answered_on, lane_of, made_of}
use Rattle.receiver.specs.Held.{HoldsSince}
use Rattle.receiver.specs.Receiving.{Says, IsToldRightly, IsLossToldRightly, IsNumberExpected}
use Rattle.receiver.specs.Replaying.{entry_of, IsGapDecision}
use Rattle.text_lines.specs.Capacities.{default_capacity}
use Rattle.text_lines.specs.Format.{IsRead}
use Rattle.texts.specs.declared.follow.happening.Happening.{Happening}
use Rattle.texts.specs.declared.follow.happening.Happening.TheVariants.{Gave, Took, Decided, Stands}
use Rattle.texts.specs.AnyHeader.{any_header}
use Rattle.texts.specs.FollowedReport.{came_to}
use Rattle.texts.specs.Happening.{name_of_input}
use Rattle.texts.specs.Replay.{IsSetupOf}
use Rattle.texts.specs.Trace.Line.{shape_of}
use Rattle.texts.specs.Trace.Place.{Said, nothing_said_in, trace_format}

-- ---- what is handed in

-- something of a trace was handed in: an input of one of so many channels, or a decision
abbrev pub IsOfTrace : ℕ → HandedIn → Type 0
IsOfTrace channels (came channel one) = channel < channels
IsOfTrace channels (decided flow decision) = IsGapDecision decision
IsOfTrace channels (restarted flow first) = ⊥

-- these entries were handed in to a receiver of so many channels, in this order, and nothing else
pub record AreHandedIn (channels : ℕ) (entries : List Entry) (handed : List HandedIn) : Type 0 where
  pub each : All (IsOfTrace channels) handed
  pub are : filter_map entry_of handed ≡ entries

-- ---- what is given

-- flow k, which has this record, has given what by the rule comes of all that came to it
abbrev pub HasGivenAll : TableSetup → List HandedIn → List Given → ℕ → FlowRecord → Type 0
HasGivenAll made handed given k flow_record =
    (counts : FlowCounts) × HasGivenByRule any_header (flow_setup made k flow_record) (came_to made handed k flow_record) (frames_of k given) counts

-- **What was given so far is all that comes of what was handed in**, as long as the receiver isn't
-- closed. Each input was answered as its lane answers it. The requests are those of what was
-- admitted, in each channel's order. Each flow has given what by the rule comes of all that came to
-- it; no flow of a trace begins anew.
pub record IsGivenSoFar (made : TableSetup) (handed : List HandedIn) (given : List Given) : Type 0 where
  pub answered : (channel : ℕ) → channel < made.channels → AreAnswered (lane_of made channel) (answered_on channel handed)
  pub requests : (channel : ℕ) → requests_given channel given ≡ requests_of (answered_on channel handed)
  pub flows : (k : ℕ) (flow_record : FlowRecord) → slice_get made.records k ≡ Some flow_record → HasGivenAll made handed given k flow_record
  pub others : (k : ℕ) → length made.records ≤ k → frames_of k given ≡ []

-- ---- what is told of one thing that is handed in

-- A flow with this record stands so after all this: it expects the number of the index that is
-- expected, and holds so many segments.
pub record IsStanding (made : TableSetup) (handed : List HandedIn) (flow : ℕ) (flow_record : FlowRecord) (expected held : ℕ) : Type 0 where
  pub number : IsNumberExpected made flow flow_record handed expected
  pub holds : HoldsSince made flow flow_record handed held

-- how the flow with this index stands is told; and nothing if there is none
abbrev pub TellsStanding : TableSetup → List HandedIn → ℕ → List Happening → Type 0
TellsStanding made handed flow told =
    MatchOption (slice_get made.records flow) (told ≡ [])
    (λ flow_record. (expected : ℕ) × (held : ℕ) × (told ≡ Stands flow expected held ∷ []) × IsStanding made handed flow flow_record expected held)

-- the flow to which a segment was admitted, or of which a decision was taken, if one was
abbrev pub flow_admitted : Reply → Option ℕ
flow_admitted reply.Granted = None
flow_admitted (reply.Refused refusal) = None
flow_admitted (reply.Admitted flow sequence told_of) = Some flow

abbrev pub flow_decided : ℕ → DecisionReply → Option ℕ
flow_decided flow decision_reply.PassedOver = None
flow_decided flow (decision_reply.Taken lost) = Some flow

-- how that flow stands is told, if there is one
abbrev pub TellsStandingAfter : TableSetup → List HandedIn → Option ℕ → List Happening → Type 0
TellsStandingAfter made handed flow told = MatchOption flow (told ≡ []) (λ k. TellsStanding made handed k told)

-- Of an input that came after all this: its lane's answer, rightly what became of its segment, and
-- then how its flow stands.
pub record TellsInput (made : TableSetup) (handed : List HandedIn) (channel : ℕ) (one : AnsweredInput) (told : List Happening) : Type 0 where
  pub reply : Reply
  pub says : Says reply one.answer
  pub rightly : IsToldRightly made handed channel one.answer reply
  pub standing : List Happening
  pub stands : TellsStandingAfter made (handed ++ came channel one ∷ []) (flow_admitted reply) standing
  pub are : told ≡ Took (name_of_input channel one.input) reply ∷ standing

-- Of a decision that came after all this: whether it was passed over, rightly whether a segment is
-- lost by it, and then how its flow stands.
pub record TellsDecision (made : TableSetup) (handed : List HandedIn) (flow : ℕ) (decision : FlowDecision) (told : List Happening) : Type 0 where
  pub reply : DecisionReply
  pub passed_over : reply ≡ decision_reply.PassedOver ↔ ((nat_lt flow (length made.records) && is_in_range decision) ≡ false)
  pub rightly : IsLossToldRightly made handed flow decision reply
  pub standing : List Happening
  pub stands : TellsStandingAfter made (handed ++ decided flow decision ∷ []) (flow_decided flow reply) standing
  pub are : told ≡ Decided flow reply ∷ standing

-- After all this, and after this one thing more, this is told of it.
abbrev pub Tells : TableSetup → List HandedIn → HandedIn → List Happening → Type 0
Tells made handed (came channel one) told = TellsInput made handed channel one told
Tells made handed (decided flow decision) told = TellsDecision made handed flow decision told
Tells made handed (restarted flow first) told = ⊥

-- **What happens** as one thing after another is handed in: for each all is given that comes of it,
-- and then it is told what became of it.
pub data HasHappened (made : TableSetup) : List HandedIn → List Given → List Happening → Type 0 where
  nothing : HasHappened made [] [] []
  one_more : {handed : List HandedIn} {given : List Given} (given_more : List Given) (one : HandedIn) {happened : List Happening} (told : List Happening)
      → HasHappened made handed given happened → IsGivenSoFar made (handed ++ one ∷ []) (given ++ given_more) → Tells made handed one told
      → HasHappened made (handed ++ one ∷ []) (given ++ given_more) (happened ++ (map Gave given_more ++ told))

-- ---- what happens for the lines of a trace

-- What happened by this rule at a receiver of this width for what some lines say that came in: it
-- has the setup that they give, and each entry was handed in, in order. It is made with the first
-- entry; before, nothing happens.
pub record HasHappenedFor (rule : LossRule) (width : Width) (said : Said) (happened : List Happening) : Type 0 where
  pub setup : Setup
  pub is_setup : IsSetupOf said setup
  pub handed : List HandedIn
  pub entries : AreHandedIn width.channels said.entries handed
  pub given : List Given
  pub has_happened : HasHappened (made_of rule width.channels setup) handed given happened

-- what happened for these lines
pub record HappenedBy (rule : LossRule) (width : Width) (lines : List (List ℕ)) (happened : List Happening) : Type 0 where
  pub said : Said
  pub read : IsRead trace_format (nothing_said_in (shape_of width default_capacity)) lines said
  pub happened_for : ((said.entries ≡ []) × (happened ≡ [])) ⊎ HasHappenedFor rule width said happened

-- something that happened by the line with this number, counted from 1
pub record HappenedAt : Type 0 where
  pub line : ℕ
  pub happening : Happening

abbrev pub happening_of : HappenedAt → Happening
happening_of one = one.happening

-- what happened up to the line with this number
abbrev pub happened_till : ℕ → List HappenedAt → List Happening
happened_till line told = map happening_of (filter (λ one. nat_le one.line line) told)

-- **Each thing happened by the line that it names**: up to the last of the first lines, however
-- many, just that has happened which happens for them. Lines are numbered up to 2^64 − 1.
abbrev pub AreNumbered : LossRule → Width → List (List ℕ) → List HappenedAt → Type 0
AreNumbered rule width lines told =
    (above below : List (List ℕ)) → lines ≡ above ++ below → length above < 2 ^ 64 - 1 → HappenedBy rule width above (happened_till (length above) told)
