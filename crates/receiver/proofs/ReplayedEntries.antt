-- What was handed in of recorded entries: all of them, and nothing else.
use Rattle.std.proofs.Common.{◌≡◌, ℕ, ◌<◌, ◌≤◌, ◌==◌, Bool, true, false, cond, Option, Some, None, Result, Ok, Err, IfOk, All, List, [], ◌∷◌, ◌++◌, length, map, filter_map, slice_index_or, ne_eqb, refl, sym, ap, subst, ◌∙◌, arith}
use Rattle.std.specs.List.{cons_option}
use Rattle.std.proofs.lemmas.List.{take_all}
use Rattle.std.proofs.lemmas.List.Elements.{All-nil, All-cons, All-head, All-tail, All-append, filter_map-append}
use Rattle.flow_records.specs.declared.decision.Decision.{Decision}
use Rattle.lane.specs.declared.input.Input.{Input}
use Rattle.lane.specs.Limits.{channel_limit, senders}
use Rattle.lane.specs.Inputs.{inputs_of, IsAnswer}
use Rattle.lane.proofs.OneLaneAnswer.{one-list-of-answers}
use Rattle.bonded_flows.specs.declared.decision.FlowDecision.TheVariants.{Gap, GapTo, SkipTo}
use Rattle.receiver.specs.HandedIn.{HandedIn, answered_on, made_of}
use Rattle.receiver.specs.HandedIn as handed_in
use Rattle.receiver.specs.HandedOrder.{sender_of, IsSent, handed_by, flow_decision, handed_decision, IsHandedFrom, IsUsedUp}
use Rattle.receiver.specs.AdmittedOrder.{input_counts}
use Rattle.receiver.specs.Entries.{Entry, decided, came_on, decision_in, tag_of, incoming_in}
use Rattle.loss_rule.specs.declared.rule.LossRule.{LossRule}
use Rattle.lane.specs.Inputs.{AreAnswered}
use Rattle.receiver.specs.declared.setup.Setup.{Setup}
use Rattle.receiver.specs.declared.outcome.Outcome.{Outcome}
use Rattle.receiver.specs.declared.replaying.Replaying.{Replaying}
use Rattle.receiver.specs.Items.{Incoming, lane_setup}
use Rattle.receiver.specs.HandedOrder.{gives_item, order_of}
use Rattle.receiver.specs.AdmittedOrder.{IsAdmittedOrder}
use Rattle.receiver.specs.Ruled.{IsOutcomeBy}
use Rattle.receiver.specs.Receiving.{WouldCome}
use Rattle.receiver.specs.Playing.{Plays, PlaysOne, IsPlaying, IsGiven}
use Rattle.receiver.specs.Replaying.{decision_entry, entry_of, IsGapDecision, IsRecorded, HasReplayed, IsReplaying, ReplaysMore, IsBoundFor}
use Rattle.receiver.proofs.HandedOrder.{order-append, order-one}
use Rattle.receiver.proofs.ReplayedOrder.{counts-are, count-channel, all-answered, handed-admitted, handed-outcome}

-- what is recorded was sent
sent-one : (one : HandedIn) → IsRecorded one → IsSent one
sent-one (handed_in.came channel one) is = is
sent-one (handed_in.decided flow decision) is = tt
sent-one (handed_in.restarted flow first) is = is

pub sent-all : (handed : List HandedIn) → All IsRecorded handed → All IsSent handed
sent-all [] all = All-nil IsSent
sent-all (one ∷ handed) all = All-cons IsSent one handed (sent-one one (All-head IsRecorded one handed all)) (sent-all handed (All-tail IsRecorded one handed all))

-- the inputs of a channel
inputs-recorded : (channel : ℕ) (handed : List HandedIn) → inputs_of (answered_on channel handed) ≡ filter_map (came_on channel) (filter_map entry_of handed)
inputs-recorded channel [] = refl
inputs-recorded channel (handed_in.came other one ∷ handed) = either (inputs-recorded channel handed) (other == channel)
  where
    either : inputs_of (answered_on channel handed) ≡ filter_map (came_on channel) (filter_map entry_of handed) → (own : Bool)
        → inputs_of (cons_option (cond own (Some one) None) (answered_on channel handed))
        ≡ cons_option (cond own (Some one.input) None) (filter_map (came_on channel) (filter_map entry_of handed))
    either rest true = ap (λ (t : List Input). one.input ∷ t) rest
    either rest false = rest
inputs-recorded channel (handed_in.decided flow Gap ∷ handed) = inputs-recorded channel handed
inputs-recorded channel (handed_in.decided flow (GapTo number) ∷ handed) = inputs-recorded channel handed
inputs-recorded channel (handed_in.decided flow (SkipTo number) ∷ handed) = inputs-recorded channel handed
inputs-recorded channel (handed_in.restarted flow first ∷ handed) = inputs-recorded channel handed

-- the decisions
decisions-recorded : (handed : List HandedIn) → All IsRecorded handed → handed_by channel_limit handed ≡ map handed_decision (filter_map decision_in (filter_map entry_of handed))
decisions-recorded [] all = refl
decisions-recorded (handed_in.came channel one ∷ handed) all =
    ap (λ (b : Bool). cond b (handed_in.came channel one ∷ handed_by channel_limit handed) (handed_by channel_limit handed))
    (ne_eqb channel_limit channel (λ same. let below = All-head IsRecorded (handed_in.came channel one) handed all in omega (arith, below, same)))
    ∙ decisions-recorded handed (All-tail IsRecorded (handed_in.came channel one) handed all)
decisions-recorded (handed_in.decided flow Gap ∷ handed) all =
    ap (λ (t : List HandedIn). handed_in.decided flow Gap ∷ t) (decisions-recorded handed (All-tail IsRecorded (handed_in.decided flow Gap) handed all))
decisions-recorded (handed_in.decided flow (GapTo number) ∷ handed) all =
    ap (λ (t : List HandedIn). handed_in.decided flow (GapTo number) ∷ t) (decisions-recorded handed (All-tail IsRecorded (handed_in.decided flow (GapTo number)) handed all))
decisions-recorded (handed_in.decided flow (SkipTo number) ∷ handed) all = absurd (All-head IsRecorded (handed_in.decided flow (SkipTo number)) handed all)
decisions-recorded (handed_in.restarted flow first ∷ handed) all = absurd (All-head IsRecorded (handed_in.restarted flow first) handed all)

-- the senders
pub tags-recorded : (handed : List HandedIn) → All IsRecorded handed → map sender_of handed ≡ map tag_of (filter_map entry_of handed)
tags-recorded [] all = refl
tags-recorded (handed_in.came channel one ∷ handed) all =
    ap (λ (t : List ℕ). channel ∷ t) (tags-recorded handed (All-tail IsRecorded (handed_in.came channel one) handed all))
tags-recorded (handed_in.decided flow Gap ∷ handed) all =
    ap (λ (t : List ℕ). channel_limit ∷ t) (tags-recorded handed (All-tail IsRecorded (handed_in.decided flow Gap) handed all))
tags-recorded (handed_in.decided flow (GapTo number) ∷ handed) all =
    ap (λ (t : List ℕ). channel_limit ∷ t) (tags-recorded handed (All-tail IsRecorded (handed_in.decided flow (GapTo number)) handed all))
tags-recorded (handed_in.decided flow (SkipTo number) ∷ handed) all = absurd (All-head IsRecorded (handed_in.decided flow (SkipTo number)) handed all)
tags-recorded (handed_in.restarted flow first ∷ handed) all = absurd (All-head IsRecorded (handed_in.restarted flow first) handed all)

-- a decision of a list is recorded
gap-recorded : (upto : Option ℕ) → IsGapDecision (flow_decision upto)
gap-recorded None = tt
gap-recorded (Some number) = tt

pub decision-recorded : (decision : Decision) → IsRecorded (handed_decision decision)
decision-recorded decision = gap-recorded decision.upto

gap-entry : (flow : ℕ) (upto : Option ℕ) → decision_entry flow (flow_decision upto) ≡ Some (decided (record { flow = flow; upto = upto }))
gap-entry flow None = refl
gap-entry flow (Some number) = refl

pub decision-entry : (decision : Decision) → entry_of (handed_decision decision) ≡ Some (decided decision)
decision-entry decision = gap-entry decision.flow decision.upto

-- where all of a sender's list was handed in nothing is left of it
pub all-used : (incoming : Incoming) (sender : ℕ) → sender < senders → IsUsedUp incoming (input_counts incoming) sender
all-used incoming sender named = let count = counts-are incoming sender named in omega (arith, count)

-- **All was handed in that the entries bring**, and nothing else.
pub entries-handed : (handed : List HandedIn) (entries : List Entry) → All IsRecorded handed → filter_map entry_of handed ≡ entries
    → IsHandedFrom (incoming_in entries) (input_counts (incoming_in entries)) handed
entries-handed handed entries all are =
    subst (λ (es : List Entry). IsHandedFrom (incoming_in es) (input_counts (incoming_in es)) handed) are
    (record {
      five = refl;
      sent = sent-all handed all;
      inputs = λ channel below. inputs-recorded channel handed ∙ sym (take_all (slice_index_or (input_counts incoming) channel 0) (incoming.inputs channel) (enough channel below));
      decisions = decisions-recorded handed all ∙ ap (map handed_decision) (sym (take_all (length incoming.decisions) incoming.decisions (omega arith)));
    })
  where
    incoming : Incoming
    incoming = incoming_in (filter_map entry_of handed)

    enough : (channel : ℕ) → channel < channel_limit → length ((incoming_in (filter_map entry_of handed)).inputs channel) ≤ slice_index_or (input_counts (incoming_in (filter_map entry_of handed))) channel 0
    enough channel below =
        let here = counts-are (incoming_in (filter_map entry_of handed)) channel (omega (arith, below)) in
        let own = count-channel (incoming_in (filter_map entry_of handed)) channel below in
        omega (arith, here, own)

module _ {C : Type 0} (accepts : C → List ℕ → Bool) where
  -- nothing was handed in at first
  pub replayed-nothing : (rule : LossRule) (check : List ℕ → Bool) (setup : Setup) (replaying : Replaying C) → Plays accepts rule check setup replaying.playing []
      → replaying.order.items ≡ [] → HasReplayed accepts rule check setup replaying []
  replayed-nothing rule check setup replaying plays none =
      record { handed = []; plays = plays; recorded = All-nil IsRecorded; are = refl; order_is = none }

  module _ (replaying after : Replaying C) (one : HandedIn) (entry : Entry) (recorded : IsRecorded one) (is : entry_of one ≡ Some entry)
      (plays : PlaysOne accepts replaying.playing one after.playing) (is_item : Bool) (tag : ℕ) (of_sender : sender_of one ≡ tag)
      (appended : after.order.items ≡ replaying.order.items ++ cond is_item (tag ∷ []) []) where
    -- an entry is handed in, which gave an item or not
    pub replays-more : ((rule : LossRule) (check : List ℕ → Bool) (setup : Setup) (handed : List HandedIn) → Plays accepts rule check setup replaying.playing handed
        → is_item ≡ gives_item (length setup.flows.items) one) → ReplaysMore accepts replaying entry after
    replays-more told rule check setup entries was = record {
      handed = was.handed ++ one ∷ [];
      plays = plays rule check setup was.handed was.plays;
      recorded = All-append IsRecorded was.handed (one ∷ []) was.recorded (All-cons IsRecorded one [] recorded (All-nil IsRecorded));
      are = filter_map-append entry_of was.handed (one ∷ []) ∙ ap (λ (t : List Entry). t ++ filter_map entry_of (one ∷ [])) was.are
          ∙ ap (λ (o : Option Entry). entries ++ cons_option o []) is;
      order_is =
          appended ∙ ap (λ (t : List ℕ). t ++ cond is_item (tag ∷ []) []) was.order_is
          ∙ ap (λ (t : List ℕ). order_of (length setup.flows.items) was.handed ++ t)
          (ap (λ (b : Bool). cond b (tag ∷ []) []) (told rule check setup was.handed was.plays)
          ∙ ap (λ (s : ℕ). cond (gives_item (length setup.flows.items) one) (s ∷ []) []) (sym of_sender)
          ∙ sym (order-one (length setup.flows.items) one))
          ∙ sym (order-append (length setup.flows.items) was.handed (one ∷ []));
    }

  -- it is a replay of something
  pub still-replaying : (replaying after : Replaying C) (entry : Entry) → IsReplaying accepts replaying → ReplaysMore accepts replaying entry after
      → length after.playing.places ≡ senders → IsReplaying accepts after
  still-replaying replaying after entry is more five = record {
    rule = is.rule;
    check = is.check;
    setup = is.setup;
    entries = is.entries ++ entry ∷ [];
    replayed = more is.rule is.check is.setup is.entries is.replayed;
    five = five;
  }

  -- its receiver plays
  pub playing-now : (replaying : Replaying C) → IsReplaying accepts replaying → IsPlaying accepts replaying.playing
  playing-now replaying is =
      record { rule = is.rule; check = is.check; setup = is.setup; handed = is.replayed.handed; plays = is.replayed.plays; five = is.five }

  module _ (rule : LossRule) (check : List ℕ → Bool) (setup : Setup) (replaying : Replaying C) (entries : List Entry) (was : HasReplayed accepts rule check setup replaying entries) where
    from : IsHandedFrom (incoming_in entries) (input_counts (incoming_in entries)) was.handed
    from = entries-handed was.handed entries was.recorded was.are

    answered : (channel : ℕ) → channel < channel_limit → AreAnswered (lane_setup setup channel) (answered_on channel was.handed)
    answered = all-answered accepts rule check setup replaying.playing was.handed was.plays

    -- what is admitted of an input after the entries is of the flow that was looked up
    pub bound-for : (channel : ℕ) (input : Input) (flow : Option ℕ) → channel < channel_limit → WouldCome accepts replaying.playing.receiver channel input flow
        → IsBoundFor setup entries channel input flow
    bound-for channel input flow below would taken answer lane is =
        let inputs = inputs-recorded channel was.handed ∙ ap (filter_map (came_on channel)) was.are in
        let same = one-list-of-answers channel_limit (lane_setup setup channel) was.plays.stands.lanes.rows_fit taken (answered_on channel was.handed)
        lane.answers (answered channel below) (lane.inputs ∙ sym inputs) in
        would check (made_of rule channel_limit setup) was.handed was.plays.given answer was.plays.stands below
        (subst (λ t. IsAnswer (lane_setup setup channel) t input answer) same is)

    -- the order of its items is the admitted order
    pub entries-admitted : IsAdmittedOrder setup (incoming_in entries) (map tag_of entries) replaying.order.items
    entries-admitted =
        subst (λ (order : List ℕ). IsAdmittedOrder setup (incoming_in entries) (map tag_of entries) order) (sym was.order_is)
        (subst (λ (tags : List ℕ). IsAdmittedOrder setup (incoming_in entries) tags (order_of (length setup.flows.items) was.handed))
        (tags-recorded was.handed was.recorded ∙ ap (map tag_of) was.are)
        (handed-admitted setup (incoming_in entries) (input_counts (incoming_in entries)) was.handed from (all-used (incoming_in entries)) answered))

    -- and what it gave is the outcome
    pub entries-replayed : (outcome : Outcome) → IsGiven rule check setup was.handed outcome → outcome.order.items ≡ replaying.order.items
        → IsOutcomeBy rule check setup (incoming_in entries) replaying.order.items outcome
    entries-replayed outcome given order =
        subst (λ (t : List ℕ). IsOutcomeBy rule check setup (incoming_in entries) t outcome) (sym was.order_is)
        (handed-outcome setup (incoming_in entries) (input_counts (incoming_in entries)) was.handed from (all-used (incoming_in entries)) rule check outcome given (order ∙ was.order_is))

-- what follows of a good result that two facts hold of
pub on-both : {T E : Type 0} {P Q R : T → Type 0} (result : Result T E) → ((x : T) → P x → Q x → R x) → IfOk result P → IfOk result Q → IfOk result R
on-both (Ok x) leads p q = leads x p q
on-both (Err e) leads p q = p
