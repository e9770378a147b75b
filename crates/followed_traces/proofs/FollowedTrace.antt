-- What happened as what lines say was handed in.
use Rattle.std.proofs.Common.{◌≡◌, ℕ, ◌<◌, ◌≤◌, ◌⊎◌, inl, inr, ◌++◌, ◌∷◌, [], Bool, true, Option, Some, None, All, List, length, get_or, refl, sym, ap, subst, ◌∙◌, append-nil, append_assoc, length-append, arith}
use Rattle.std.specs.Prelude.{◌≢◌, ◌↔◌, ◌&&◌, nat_lt, false, if◌then◌else◌, Result, Ok, Err, MatchOption, IfSome, OnOk, map, filter, flat_map, slice_get}
use Rattle.std.specs.Option.{option_map}
use Rattle.std.proofs.lemmas.Bool.{cases_eq, false≢true}
use Rattle.std.proofs.lemmas.List.Elements.{All-nil, All-push, filter-append}
use Rattle.std.proofs.lemmas.Option.{slice_get_cases, slice_get_past}
use Rattle.ccf.proofs.TwoSplits.{AllByRecursion-front, AllByRecursion-behind}
use Rattle.flow_selection.specs.Selection.{is_selected}
use Rattle.lane.specs.declared.admitted.Admitted.{Admitted}
use Rattle.lane.specs.declared.input.Input.{Input}
use Rattle.lane.specs.Inputs.{Answer, AnsweredInput}
use Rattle.bonded_flows.specs.declared.decision.FlowDecision.{FlowDecision}
use Rattle.bonded_flows.specs.declared.flow_slot.DecideFault.{DecideFault}
use Rattle.bonded_flows.specs.ByRule.{is_in_range}
use Rattle.bonded_flows.specs.declared.flow_slot.FlowSlot.{FlowSlot}
use Rattle.bonded_flows.specs.declared.flow_table.FlowTable.{FlowTable}
use Rattle.bonded_flows.specs.Table.{TableSetup, OthersStay}
use Rattle.consumer.specs.declared.given.Given.{Given}
use Rattle.flow_records.specs.declared.record.FlowRecord.{FlowRecord}
use Rattle.loss_rule.specs.declared.rule.LossRule.{LossRule}
use Rattle.receiver.specs.declared.closing.Closed.{Closed}
use Rattle.receiver.specs.declared.receiver.Receiver.{Receiver}
use Rattle.receiver.specs.declared.reply.Reply.{Reply}
use Rattle.receiver.specs.declared.reply.Reply.TheVariants as reply
use Rattle.receiver.specs.declared.reply.TakeError.{TakeError}
use Rattle.receiver.specs.declared.reply.DecisionReply.{DecisionReply}
use Rattle.receiver.specs.declared.reply.DecisionReply.TheVariants as decision_reply
use Rattle.receiver.specs.declared.setup.Setup.{Setup}
use Rattle.receiver.specs.declared.width.Width.{Width}
use Rattle.docsis_wire.specs.declared.header_check.NoCheck.{NoCheck}
use Rattle.receiver.specs.Elsewhere.{LooksLike}
use Rattle.receiver.specs.Entries as entry
use Rattle.receiver.specs.Entries.{Entry}
use Rattle.receiver.specs.HandedIn.{HandedIn, came, decided, restarted, made_of}
use Rattle.receiver.specs.Held.{HoldsSince}
use Rattle.receiver.specs.Received.{Closes}
use Rattle.receiver.specs.Receiving.{StandsFor, TakesMore, IsSettledAt, FlowIsSettled, ChangesOneFlow, IsSettledIfTaken, IsNumberExpected, WouldCome}
use Rattle.texts.specs.declared.follow.happening.Happening.{Happening}
use Rattle.texts.specs.declared.follow.happening.Happening.TheVariants.{Gave, Stands}
use Rattle.texts.specs.declared.follow.happening_list.HappeningList.{HappeningList}
use Rattle.texts.specs.AnyHeader.{any_header, no_check}
use Rattle.texts.specs.Happened.{IsOfTrace, IsGivenSoFar, IsStanding, TellsStanding, TellsStandingAfter, flow_admitted, flow_decided, Tells}
use Rattle.texts.specs.Happening.{happening_lines}
use Rattle.text_lines.specs.Putting.{Puts}
use Rattle.texts.specs.Follow.{lines_told}
use Rattle.texts.specs.declared.follow.settings.FollowSettings.{FollowSettings}
use Rattle.texts.specs.Inside.SetupLines.{SetupSoFar, HasSetup}
use Rattle.texts.specs.Inside.TraceInput.{WereTaken}
use Rattle.texts.proofs.StandInEntries.{looks_same}
use Rattle.texts.proofs.GivenSoFar.{given_so_far}
use Rattle.texts.specs.Inside.Added.{HasAdded, HasKept}
use Rattle.texts.specs.Inside.StandIn.{MayStandFor}
use Rattle.texts.proofs.OneHappening.{GivesOneSoFar, its_answer}
use Rattle.answers.specs.Beside.{IsBeside}
use Rattle.answers.specs.Room.{EntryHasBytes}
use Rattle.answers.specs.ToldAlike.{EntryStandsIn, is_told_for}
use Rattle.answers.proofs.ToldOfWhole.{nothing_beside, one_more_beside, told_given}
use Rattle.answers.proofs.ClosedBeside.{closes_beside}
use Rattle.followed_traces.specs.declared.follow_input.FollowInput.{FollowInput}
use Rattle.followed_traces.specs.Inside.Watched.{TellsStandingIn, TellsStandingOf, TellsStandingIfAny, ReceiverUnderWay, would_be_followed, Watched, starts_watched, HappensForWhole, HasFollowed, IsNonePending, EndsFollowing}
use Rattle.followed_traces.specs.Inside.Lines.{with_told, IsAllPut, PutsHappened}

-- a receiver in a box is that receiver, under way
pub under_way : (receiver boxed : Receiver NoCheck) (pending : HappeningList) (now : ReceiverUnderWay) → receiver ≡ boxed
    → record { receiver = boxed; pending = pending } ≡ now → now ≡ record { receiver = receiver; pending = pending }
under_way receiver boxed pending now same is = sym is ∙ ap (λ (r : Receiver NoCheck). record { receiver = r; pending = pending }) (sym same)

-- ---- how a flow stands

-- there is no such flow
pub no_standing : (receiver : Receiver NoCheck) (flow : ℕ) → length receiver.flows.slots.items ≤ flow → TellsStandingOf receiver flow []
no_standing receiver flow past = subst (TellsStandingIn receiver flow []) (sym (slice_get_past receiver.flows.slots.items flow past)) refl

-- there is, and this is what it expects and holds
pub one_standing : (receiver : Receiver NoCheck) (flow expected held : ℕ) → (length receiver.flows.slots.items ≤ flow → ⊥)
    → ((check : List ℕ → Bool) (made : TableSetup) (handed : List HandedIn) (given : List Given) (flow_record : FlowRecord)
    → StandsFor no_check receiver check made handed given → slice_get made.records flow ≡ Some flow_record → IsSettledAt receiver flow
    → IsNumberExpected made flow flow_record handed expected)
    → ((check : List ℕ → Bool) (made : TableSetup) (handed : List HandedIn) (given : List Given) (flow_record : FlowRecord)
    → StandsFor no_check receiver check made handed given → slice_get made.records flow ≡ Some flow_record → IsSettledAt receiver flow
    → HoldsSince made flow flow_record handed held) → TellsStandingOf receiver flow (Stands flow expected held ∷ [])
one_standing receiver flow expected held within number holds = by_cases (slice_get_cases receiver.flows.slots.items flow).1 where
  by_cases : ((slot : FlowSlot) × (flow < length receiver.flows.slots.items) × (slice_get receiver.flows.slots.items flow ≡ Some slot)
      × (get_or receiver.flows.slots.items flow slot ≡ slot))
      ⊎ ((length receiver.flows.slots.items ≤ flow) × (slice_get receiver.flows.slots.items flow ≡ None))
      → TellsStandingOf receiver flow (Stands flow expected held ∷ [])
  by_cases (inl slot) =
      subst (TellsStandingIn receiver flow (Stands flow expected held ∷ [])) (sym slot.2) (
        expected,
        held,
        refl,
        λ check made handed given flow_record stands of_record settled.
            (number check made handed given flow_record stands of_record settled, holds check made handed given flow_record stands of_record settled),
      )
  by_cases (inr past) = absurd (within past.0)

module _ (receiver : Receiver NoCheck) (made : TableSetup) (handed : List HandedIn) (given : List Given)
    (stands : StandsFor no_check receiver any_header made handed given) where
  -- what is told of a receiver that stands for this
  tells_standing : (flow : ℕ) (told : List Happening) → IsSettledAt receiver flow → TellsStandingOf receiver flow told → TellsStanding made handed flow told
  tells_standing flow told settled tells = by_cases (slice_get_cases made.records flow).1 (slice_get_cases receiver.flows.slots.items flow).1 where
    slots : List FlowSlot
    slots = receiver.flows.slots.items

    As : Option FlowRecord → Type 0
    As known =
        MatchOption known (told ≡ [])
        (λ flow_record. (expected : ℕ) × (held : ℕ) × (told ≡ Stands flow expected held ∷ []) × IsStanding made handed flow flow_record expected held)

    with_both : (flow_record : FlowRecord) (slot : FlowSlot) → slice_get made.records flow ≡ Some flow_record → TellsStandingIn receiver flow told (Some slot)
        → As (Some flow_record)
    with_both flow_record slot is_record is =
        let both = is.3 any_header made handed given flow_record stands is_record settled in
        (is.0, is.1, is.2, record { number = both.0; holds = both.1 })

    by_cases : ((flow_record : FlowRecord) × (flow < length made.records) × (slice_get made.records flow ≡ Some flow_record) × (get_or made.records flow flow_record ≡ flow_record))
        ⊎ ((length made.records ≤ flow) × (slice_get made.records flow ≡ None))
        → ((slot : FlowSlot) × (flow < length slots) × (slice_get slots flow ≡ Some slot) × (get_or slots flow slot ≡ slot))
        ⊎ ((length slots ≤ flow) × (slice_get slots flow ≡ None))
        → TellsStanding made handed flow told
    by_cases (inl one) (inl slot) =
        subst As (sym one.2) (with_both one.0 slot.0 one.2 (subst (TellsStandingIn receiver flow told) slot.2 tells))
    by_cases (inr none) (inr past) = subst As (sym none.1) (subst (TellsStandingIn receiver flow told) past.1 tells)
    by_cases (inl one) (inr past) = absurd (omega (arith, one.1, past.0, stands.flows.flow_count))
    by_cases (inr none) (inl slot) = absurd (omega (arith, none.0, slot.1, stands.flows.flow_count))

  -- the same of a flow, if there is one
  pub tells_after : (flow : Option ℕ) (told : List Happening) → IfSome flow (IsSettledAt receiver) → TellsStandingIfAny receiver flow told
      → TellsStandingAfter made handed flow told
  tells_after None told settled tells = tells
  tells_after (Some flow) told settled tells = tells_standing flow told settled tells

-- the flow to which something came is settled
pub settled_after : (receiver : Receiver NoCheck) (reply : Reply) → FlowIsSettled receiver reply → IfSome (flow_admitted reply) (IsSettledAt receiver)
settled_after receiver reply.Granted settled = tt
settled_after receiver (reply.Refused refusal) settled = tt
settled_after receiver (reply.Admitted flow sequence told_of) settled = settled

pub settled_decided : (receiver : Receiver NoCheck) (flow : ℕ) (reply : DecisionReply) → IsSettledIfTaken receiver flow reply
    → IfSome (flow_decided flow reply) (IsSettledAt receiver)
settled_decided receiver flow decision_reply.PassedOver settled = tt
settled_decided receiver flow (decision_reply.Taken lost) settled = settled

-- ---- nothing is left to be done

-- of any flow, where nothing was of any before, only one changed since, and nothing is left to be
-- done of that
others_settled : (receiver receiver' : Receiver NoCheck) (flow : ℕ) → ((k : ℕ) → IsSettledAt receiver k) → OthersStay receiver.flows flow receiver'.flows
    → IsSettledAt receiver' flow → (k : ℕ) → IsSettledAt receiver' k
others_settled receiver receiver' flow all others settled k = by_cases (cases_eq k flow) where
  by_cases : (k ≡ flow) ⊎ (k ≢ flow) → IsSettledAt receiver' k
  by_cases (inl same) = subst (λ (k : ℕ). IsSettledAt receiver' k) (sym same) settled
  by_cases (inr other) = λ slot is. all k slot (sym (others k other) ∙ is)

all_settled_after : (receiver receiver' : Receiver NoCheck) (reply : Reply) → ((k : ℕ) → IsSettledAt receiver k)
    → ChangesOneFlow receiver.flows (Ok reply) receiver'.flows → FlowIsSettled receiver' reply → (k : ℕ) → IsSettledAt receiver' k
all_settled_after receiver receiver' reply.Granted all same settled k = λ slot is. all k slot (subst (λ (flows : FlowTable NoCheck). slice_get flows.slots.items k ≡ Some slot) same is)
all_settled_after receiver receiver' (reply.Refused refusal) all same settled k =
    λ slot is. all k slot (subst (λ (flows : FlowTable NoCheck). slice_get flows.slots.items k ≡ Some slot) same is)
all_settled_after receiver receiver' (reply.Admitted flow sequence told_of) all others settled k = others_settled receiver receiver' flow all others settled k

pub all_settled_decided : (receiver receiver' : Receiver NoCheck) (flow : ℕ) (reply : DecisionReply) → ((k : ℕ) → IsSettledAt receiver k)
    → (reply ≡ decision_reply.PassedOver → receiver' ≡ receiver) → OthersStay receiver.flows flow receiver'.flows → IsSettledIfTaken receiver' flow reply
    → (k : ℕ) → IsSettledAt receiver' k
all_settled_decided receiver receiver' flow decision_reply.PassedOver all same others settled k =
    subst (λ (receiver : Receiver NoCheck). IsSettledAt receiver k) (sym (same refl)) (all k)
all_settled_decided receiver receiver' flow (decision_reply.Taken lost) all same others settled k = others_settled receiver receiver' flow all others settled k

-- ---- one thing more

-- a decision is passed over where there is no such flow, of as many as there are records
pub passed_over : (result : Result DecisionReply DecideFault) (reply : DecisionReply) (flow few many : ℕ) (decision : FlowDecision) → result ≡ Ok reply → few ≡ many
    → result ≡ Ok decision_reply.PassedOver ↔ ((nat_lt flow few && is_in_range decision) ≡ false)
    → reply ≡ decision_reply.PassedOver ↔ ((nat_lt flow many && is_in_range decision) ≡ false)
passed_over result reply flow few many decision is same told = (
  λ passed. subst (λ (n : ℕ). (nat_lt flow n && is_in_range decision) ≡ false) same (told.0 (is ∙ ap Ok passed)),
  λ out. ap taken (sym is ∙ told.1 (subst (λ (n : ℕ). (nat_lt flow n && is_in_range decision) ≡ false) (sym same) out)),
) where
  taken : Result DecisionReply DecideFault → DecisionReply
  taken (Ok reply) = reply
  taken (Err fault) = decision_reply.PassedOver

-- something is told of each thing that is handed in
tells_some : (made : TableSetup) (handed : List HandedIn) (one : HandedIn) (new : List Happening) → Tells made handed one new → 0 < length new
tells_some made handed (came channel answered) new tells = omega (arith, ap length tells.are)
tells_some made handed (decided flow decision) new tells = omega (arith, ap length tells.are)
tells_some made handed (restarted flow first) new tells = absurd tells

module _ (state : Watched) (rule : LossRule) (width : Width) (setup : Setup) (entries : List Entry) (now : ReceiverUnderWay)
    (has : HasFollowed state rule width setup entries now) where
  abbrev made : TableSetup
  made = made_of rule width.channels setup

  abbrev told_of : Happening → Bool
  told_of = is_told_for state.settings.selected

  -- what was given was kept besides what was pending
  kept_besides : (given : List Given) (pending : HappeningList) → ((start : HappeningList) (before : List Given) → HasKept start before now.pending → HasKept start (before ++ given) pending)
      → HasKept now.pending given pending
  kept_besides given pending was_given = was_given now.pending [] (λ whole. (whole, sym (append-nil now.pending.happened.items)))

  -- nothing is left to be done after an input
  pub settled_by_input : (receiver : Receiver NoCheck) (result : Result Reply TakeError) (reply : Reply) → result ≡ Ok reply
      → ChangesOneFlow now.receiver.flows result receiver.flows → FlowIsSettled receiver reply → (k : ℕ) → IsSettledAt receiver k
  settled_by_input receiver result reply is changes =
      all_settled_after now.receiver receiver reply has.settled (subst (λ result. ChangesOneFlow now.receiver.flows result receiver.flows) is changes)

  -- the receiver was closed
  pub followed_end : (closed : Closed) (pending : HappeningList) → Closes HasKept no_check now.receiver now.pending closed pending
      → EndsFollowing state rule width setup entries pending closed
  followed_end closed pending closes whole bytes =
      let kept = kept_besides closes.given_more pending closes.was_given whole in
      let was = has.whole kept.0 bytes in
      let ends = closes_beside state.settings.selected made has.others has.also entries was.handed was.given (state.told ++ was.rest) closes.given_more closed was.beside has.each
      (closes.received any_header made has.others has.also has.stands) in
      record {
        handed = was.handed;
        entries_are = record { each = was.beside.so_far.each; are = was.beside.are };
        given = was.given;
        last = was.rest;
        happened = was.beside.so_far.has_happened;
        rest = ends.more;
        counted = ends.counted;
        received = ends.received;
        same =
            filter-append told_of was.rest (map Gave ends.more)
            ∙ ap (λ (t : List Happening). t ++ filter told_of (map Gave ends.more)) was.same
            ∙ ap (λ (t : List Happening). filter told_of now.pending.happened.items ++ t)
            (told_given state.settings.selected ends.more ∙ ap (map Gave) ends.same ∙ sym (told_given state.settings.selected closes.given_more))
            ∙ sym (filter-append told_of now.pending.happened.items (map Gave closes.given_more))
            ∙ ap (filter told_of) (sym kept.1);
        alike = ends.alike;
      }

  module _ (gives : GivesOneSoFar) where
    -- one thing more happened for the whole
    whole_more : (also_more : List Given) (one : HandedIn) (entry : Entry) (new : List Happening) (pending all : List Happening)
        → HappensForWhole state made has.others has.also entries pending → IsOfTrace width.channels one → EntryStandsIn (is_selected state.settings.selected) one entry
        → EntryHasBytes entry → IsGivenSoFar made (has.others ++ one ∷ []) (has.also ++ also_more) → Tells made has.others one new
        → pending ++ (map Gave also_more ++ new) ≡ all
        → HappensForWhole state made (has.others ++ one ∷ []) (has.also ++ also_more) (entries ++ entry ∷ []) all
    whole_more also_more one entry new pending all was of_trace stands bytes so_far tells is =
        let grows = one_more_beside state.settings.selected made has.stands.lanes.rows_fit gives has.others has.also entries was.handed was.given (state.told ++ was.rest)
        one entry also_more new was.beside of_trace stands bytes so_far tells in
        let more = map Gave grows.more ++ grows.told in
        record {
          handed = was.handed ++ grows.other ∷ [];
          given = was.given ++ grows.more;
          rest = was.rest ++ more;
          beside =
              subst (IsBeside state.settings.selected made (has.others ++ one ∷ []) (has.also ++ also_more) (entries ++ entry ∷ []) (was.handed ++ grows.other ∷ []) (was.given ++ grows.more))
              (append_assoc state.told was.rest more) grows.beside;
          same =
              filter-append told_of was.rest more
              ∙ ap (λ (t : List Happening). t ++ filter told_of more) was.same
              ∙ ap (λ (t : List Happening). filter told_of pending ++ t) grows.same
              ∙ sym (filter-append told_of pending (map Gave also_more ++ new))
              ∙ ap (filter told_of) is;
          none = λ empty.
              let some = tells_some made has.others one new tells in
              absurd (omega (arith, ap length (is ∙ empty), length-append pending (map Gave also_more ++ new), length-append (map Gave also_more) new, some));
        }

    -- one thing more was handed in, and what became of it was told
    pub followed_more : (receiver : Receiver NoCheck) (between : HappeningList) (one : HandedIn) (entry : Entry) (new : List Happening) (pending : HappeningList)
        → IsOfTrace width.channels one → (takes : TakesMore HasKept no_check now.receiver now.pending (one ∷ []) receiver between)
        → (IsGivenSoFar made (has.others ++ one ∷ []) (has.also ++ takes.given_more) → EntryStandsIn (is_selected state.settings.selected) one entry)
        → ((k : ℕ) → IsSettledAt receiver k) → Tells made has.others one new → HasAdded between new pending
        → HasFollowed state rule width setup (entries ++ entry ∷ []) (record { receiver = receiver; pending = pending })
    followed_more receiver between one entry new pending of_trace takes stands_in settled tells added = record {
      others = has.others ++ one ∷ [];
      also = has.also ++ takes.given_more;
      stands = stands;
      settled = settled;
      each = each;
      whole = λ whole bytes.
          let grown = added whole in
          let kept = kept_besides takes.given_more between takes.was_given grown.0 in
          whole_more takes.given_more one entry new now.pending.happened.items pending.happened.items
          (has.whole kept.0 (AllByRecursion-front EntryHasBytes entries (entry ∷ []) bytes)) of_trace (stands_in so_far)
          (AllByRecursion-behind EntryHasBytes entries (entry ∷ []) bytes).0 so_far tells
          (sym (append_assoc now.pending.happened.items (map Gave takes.given_more) new)
          ∙ ap (λ (t : List Happening). t ++ new) (sym kept.1) ∙ sym grown.1);
    } where
      stands : StandsFor no_check receiver any_header made (has.others ++ one ∷ []) (has.also ++ takes.given_more)
      stands = takes.stands any_header made has.others has.also has.stands

      each : All (IsOfTrace width.channels) (has.others ++ one ∷ [])
      each = All-push (IsOfTrace width.channels) has.others one has.each of_trace

      so_far : IsGivenSoFar made (has.others ++ one ∷ []) (has.also ++ takes.given_more)
      so_far = given_so_far receiver made width.channels (has.others ++ one ∷ []) (has.also ++ takes.given_more) stands each settled

    -- an input that may stand in for one that came does so, by whatever answer
    pub stands_in_for : (place channel : ℕ) (came_in input : Input) (answer : Answer) (given : List Given) → channel ≡ place → place < width.channels
        → MayStandFor would_be_followed (is_selected state.settings.selected) (Some now) place came_in input
        → IsGivenSoFar made (has.others ++ came place (record { input = input; answer = answer }) ∷ []) given
        → EntryStandsIn (is_selected state.settings.selected) (came place (record { input = input; answer = answer })) (entry.came channel came_in)
    stands_in_for place channel came_in input answer given there within (inl same) so_far =
        (there, record { looks_like = subst (LooksLike input) same (looks_same input); same = λ admitted gives_it chosen. sym same })
    stands_in_for place channel came_in input answer given there within (inr another) so_far = (
      there,
      record {
        looks_like = another.0;
        same = λ admitted gives_it chosen.
            let looked = another.1 in
            let answered : AnsweredInput = record { input = input; answer = answer } in
            let is = its_answer made has.stands.lanes.rows_fit gives has.others place within answered given so_far in
            let flow = looked.1 any_header made has.others has.also answer has.stands within is in
            let of_it : looked.0 ≡ Some admitted.flow = sym flow ∙ ap (option_map (λ (a : Admitted). a.flow)) gives_it in
            let away = subst (λ (found : Option ℕ). IfSome found (λ k. is_selected state.settings.selected k ≡ false)) of_it looked.2 in
            absurd (false≢true (sym away ∙ chosen));
      },
    )

-- what is looked at on one channel is looked at on the same one
pub looked : (receiver : Receiver NoCheck) (place channel : ℕ) (input : Input) (flow : Option ℕ) → place ≡ channel → WouldCome no_check receiver place input flow
    → WouldCome no_check receiver channel input flow
looked receiver place channel input flow same would = subst (λ (c : ℕ). WouldCome no_check receiver c input flow) same would

-- nothing was handed in
pub nothing_handed_in : (state : Watched) (rule : LossRule) (width : Width) (setup : Setup) (receiver : Receiver NoCheck) (pending : HappeningList)
    → state.told ≡ [] → StandsFor no_check receiver any_header (made_of rule width.channels setup) [] [] → ((k : ℕ) → IsSettledAt receiver k) → pending.happened.items ≡ []
    → HasFollowed state rule width setup [] (record { receiver = receiver; pending = pending })
nothing_handed_in state rule width setup receiver pending none stands settled empty = record {
  others = [];
  also = [];
  stands = stands;
  settled = settled;
  each = All-nil (IsOfTrace width.channels);
  whole = λ whole bytes. record {
    handed = [];
    given = [];
    rest = [];
    beside =
        subst (λ (told : List Happening). IsBeside state.settings.selected (made_of rule width.channels setup) [] [] [] [] [] (told ++ [])) (sym none)
        (nothing_beside state.settings.selected (made_of rule width.channels setup));
    same = ap (filter (is_told_for state.settings.selected)) (sym empty);
    none = λ _. refl;
  };
}

-- ---- what was pending is put

-- the lines of what is told of the selected flows and of none are all lines
pub lines_of_told : (settings : FollowSettings) (line : ℕ) (happened : List Happening)
    → flat_map (lines_told settings line) (filter (is_told_for settings.selected) happened) ≡ flat_map (lines_told settings line) happened
lines_of_told settings line [] = refl
lines_of_told settings line (one ∷ more) = by_flag (is_told_for settings.selected one) refl (lines_of_told settings line more) where
  p : Happening → Bool
  p = is_told_for settings.selected

  f : Happening → List ℕ
  f = lines_told settings line

  by_flag : (b : Bool) → is_told_for settings.selected one ≡ b → flat_map f (filter p more) ≡ flat_map f more
      → flat_map f (if b then one ∷ filter p more else filter p more) ≡ f one ++ flat_map f more
  by_flag true is rest = ap (λ (t : List ℕ). f one ++ t) rest
  by_flag false is rest =
      rest ∙ ap (λ (b : Bool). (if b then happening_lines settings.events line one else []) ++ flat_map f more) (sym is)

-- the same lines where the same is told
pub same_lines : (settings : FollowSettings) (line : ℕ) (happened others : List Happening)
    → filter (is_told_for settings.selected) happened ≡ filter (is_told_for settings.selected) others
    → flat_map (lines_told settings line) happened ≡ flat_map (lines_told settings line) others
same_lines settings line happened others same =
    sym (lines_of_told settings line happened) ∙ ap (flat_map (lines_told settings line)) same ∙ lines_of_told settings line others

-- what happened for the whole is told then
put_more : (state : Watched) (rule : LossRule) (width : Width) (setup : Setup) (entries : List Entry) (now now' : ReceiverUnderWay)
    → (has : HasFollowed state rule width setup entries now) → now'.receiver ≡ now.receiver → IsNonePending now'
    → (was : HappensForWhole state (made_of rule width.channels setup) has.others has.also entries now.pending.happened.items)
    → HasFollowed (record { told = state.told ++ was.rest; settings = state.settings }) rule width setup entries now'
put_more state rule width setup entries now now' has same none was = record {
  others = has.others;
  also = has.also;
  stands =
      subst (λ (receiver : Receiver NoCheck). StandsFor no_check receiver any_header (made_of rule width.channels setup) has.others has.also) (sym same) has.stands;
  settled = subst (λ (receiver : Receiver NoCheck). (k : ℕ) → IsSettledAt receiver k) (sym same) has.settled;
  each = has.each;
  whole = λ whole bytes. record {
    handed = was.handed;
    given = was.given;
    rest = [];
    beside =
        subst (IsBeside state.settings.selected (made_of rule width.channels setup) has.others has.also entries was.handed was.given) (sym (append-nil (state.told ++ was.rest))) was.beside;
    same = ap (filter (is_told_for state.settings.selected)) (sym none.0);
    none = λ _. refl;
  };
}

-- Of a taker that is there what was pending was put, and of one that isn't there nothing.
pub puts_pending : {T E : Type 0} (after : T → List ℕ → T → Type 0) (line : ℕ) (before now : FollowInput) (under under' : ReceiverUnderWay) (out out' : T)
    (result : Result (Unit {0}) E) → before.input.taker ≡ Some under → now.input.taker ≡ Some under' → now.settings ≡ before.settings → now.input.width ≡ before.input.width
    → now.input.rule ≡ before.input.rule → now.input.setup ≡ before.input.setup
    → OnOk result (Puts after out (flat_map (lines_told before.settings line) under.pending.happened.items) out') → OnOk result (under.pending.whole ≡ true)
    → OnOk result (IsNonePending under') → OnOk result (under'.receiver ≡ under.receiver) → OnOk result (PutsHappened after line before out now out')
puts_pending after line before now under under' out out' (Err fault) is is_now settings width rule setup put whole none same = tt
puts_pending after line before now under under' out out' (Ok done) is is_now settings width rule setup put whole none same = record {
  text = flat_map (lines_told before.settings line) under.pending.happened.items;
  put = put;
  none = subst IsAllPut (sym is_now) none;
  settings = settings;
  told = λ state has.
      let lines = has.lines in
      let taken = subst (λ (taker : Option ReceiverUnderWay). WereTaken starts_watched HasFollowed state.state state.rule state.width before.input.setup.setup taker state.said.entries)
      is lines.taken in
      let was = taken.1.whole whole has.bytes in (
        was.rest,
        same_lines before.settings line under.pending.happened.items was.rest
            (subst (λ (s : FollowSettings). filter (is_told_for s.selected) under.pending.happened.items ≡ filter (is_told_for s.selected) was.rest) (sym has.settings) (sym was.same)),
        record {
          settings = settings ∙ has.settings;
          bytes = has.bytes;
          lines = record {
            width_is = width ∙ lines.width_is;
            rule_is = rule ∙ lines.rule_is;
            setup = subst (HasSetup state.said) (sym setup) lines.setup;
            mailbox = ap (λ (s : SetupSoFar). s.setup.mailbox) setup ∙ lines.mailbox;
            taken =
                subst (λ (s : SetupSoFar). WereTaken starts_watched HasFollowed (with_told state was.rest).state state.rule state.width s.setup now.input.taker state.said.entries)
                (sym setup)
                (subst (λ (taker : Option ReceiverUnderWay). WereTaken starts_watched HasFollowed (with_told state was.rest).state state.rule state.width before.input.setup.setup taker state.said.entries)
                (sym is_now)
                (taken.0, put_more state.state state.rule state.width before.input.setup.setup state.said.entries under under' taken.1 same none was));
          };
        },
      );
}

-- where nothing was begun nothing is pending
pub puts_none : {T : Type 0} (after : T → List ℕ → T → Type 0) (line : ℕ) (before now : FollowInput) (out : T) → Puts after out [] out → before.input.taker ≡ None
    → now.input.taker ≡ None → now.settings ≡ before.settings → now.input.width ≡ before.input.width → now.input.rule ≡ before.input.rule
    → now.input.setup ≡ before.input.setup → PutsHappened after line before out now out
puts_none after line before now out put is is_now settings width rule setup = record {
  text = [];
  put = put;
  none = subst IsAllPut (sym is_now) tt;
  settings = settings;
  told = λ state has.
      let lines = has.lines in
      let taken = subst (λ (taker : Option ReceiverUnderWay). WereTaken starts_watched HasFollowed state.state state.rule state.width before.input.setup.setup taker state.said.entries)
      is lines.taken in (
        [],
        refl,
        record {
          settings = settings ∙ has.settings;
          bytes = has.bytes;
          lines = record {
            width_is = width ∙ lines.width_is;
            rule_is = rule ∙ lines.rule_is;
            setup = subst (HasSetup state.said) (sym setup) lines.setup;
            mailbox = ap (λ (s : SetupSoFar). s.setup.mailbox) setup ∙ lines.mailbox;
            taken =
                subst (λ (taker : Option ReceiverUnderWay). WereTaken starts_watched HasFollowed (with_told state []).state state.rule state.width now.input.setup.setup taker state.said.entries)
                (sym is_now) (append-nil state.state.told ∙ taken.0, taken.1);
          };
        },
      );
}
