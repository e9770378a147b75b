-- What was followed so far of a trace by what takes its entries.
use Rattle.std.specs.Prelude.{◌≡◌, ℕ, Bool, Option, Some, true, MatchOption, All, List, [], ◌∷◌, ◌++◌, map, filter, slice_get}
use Rattle.std.specs.List.{AllByRecursion}
use Rattle.answers.specs.Beside.{IsBeside, AreCountedAlike}
use Rattle.answers.specs.Room.{EntryHasBytes}
use Rattle.answers.specs.ToldAlike.{is_told_for}
use Rattle.bonded_flows.specs.declared.flow_slot.FlowSlot.{FlowSlot}
use Rattle.bonded_flows.specs.Table.{TableSetup}
use Rattle.consumer.specs.declared.given.Given.{Given}
use Rattle.docsis_wire.specs.declared.header_check.NoCheck.{NoCheck}
use Rattle.flow_records.specs.declared.record.FlowRecord.{FlowRecord}
use Rattle.lane.specs.declared.input.Input.{Input}
use Rattle.loss_rule.specs.declared.rule.LossRule.{LossRule}
use Rattle.receiver.specs.declared.closing.Closed.{Closed}
use Rattle.receiver.specs.declared.receiver.Receiver.{Receiver}
use Rattle.receiver.specs.declared.setup.Setup.{Setup}
use Rattle.receiver.specs.declared.width.Width.{Width}
use Rattle.receiver.specs.Entries.{Entry}
use Rattle.receiver.specs.HandedIn.{HandedIn, made_of}
use Rattle.receiver.specs.Held.{HoldsSince}
use Rattle.receiver.specs.Received.{IsReceived}
use Rattle.receiver.specs.Receiving.{StandsFor, IsSettledAt, IsNumberExpected, WouldCome}
use Rattle.texts.specs.declared.follow.happening.Happening.{Happening}
use Rattle.texts.specs.declared.follow.happening.Happening.TheVariants.{Gave, Stands}
use Rattle.texts.specs.declared.follow.happening_list.HappeningList.{HappeningList}
use Rattle.texts.specs.declared.follow.settings.FollowSettings.{FollowSettings}
use Rattle.texts.specs.AnyHeader.{any_header, no_check}
use Rattle.texts.specs.Happened.{IsOfTrace, AreHandedIn, HasHappened}

-- each of these that is a burst is of bytes
abbrev pub AreOfBytes : List Entry → Type 0
AreOfBytes entries = AllByRecursion EntryHasBytes entries

-- How a flow of a receiver stands is told that has this slot; nothing is told of one that has none.
abbrev pub TellsStandingIn : Receiver NoCheck → ℕ → List Happening → Option FlowSlot → Type 0
TellsStandingIn receiver flow told known =
    MatchOption known (told ≡ [])
    (λ slot. (expected held : ℕ) × (told ≡ Stands flow expected held ∷ [])
    × ((check : List ℕ → Bool) (made : TableSetup) (handed : List HandedIn) (given : List Given) (flow_record : FlowRecord)
    → StandsFor no_check receiver check made handed given → slice_get made.records flow ≡ Some flow_record → IsSettledAt receiver flow
    → IsNumberExpected made flow flow_record handed expected × HoldsSince made flow flow_record handed held))

abbrev pub TellsStandingOf : Receiver NoCheck → ℕ → List Happening → Type 0
TellsStandingOf receiver flow told = TellsStandingIn receiver flow told (slice_get receiver.flows.slots.items flow)

-- so it is told of this flow, if it is one
abbrev pub TellsStandingIfAny : Receiver NoCheck → Option ℕ → List Happening → Type 0
TellsStandingIfAny receiver flow told = MatchOption flow (told ≡ []) (λ k. TellsStandingOf receiver k told)

-- a receiver, and what happened that wasn't put yet
pub record ReceiverUnderWay : Type 0 where
  pub receiver : Receiver NoCheck
  pub pending : HappeningList

-- a segment of this input would be admitted to this flow, or none would be
abbrev pub would_be_followed : ReceiverUnderWay → ℕ → Input → Option ℕ → Type 0
would_be_followed now channel input flow = WouldCome no_check now.receiver channel input flow

-- what was told of the whole, and the settings by which it is put
pub record Watched : Type 0 where
  pub told : List Happening
  pub settings : FollowSettings

-- nothing was told yet
abbrev pub starts_watched : Watched → Type 0
starts_watched state = state.told ≡ []

-- **What happened for the whole**, beside what was handed in: these entries were handed in, and all
-- that happened was told, but for a rest, of which the same is told of the selected flows and of
-- none as of what is pending, in the same order.
pub record HappensForWhole (state : Watched) (made : TableSetup) (others : List HandedIn) (also : List Given) (entries : List Entry) (pending : List Happening) : Type 0 where
  pub handed : List HandedIn
  pub given : List Given
  pub rest : List Happening
  pub beside : IsBeside state.settings.selected made others also entries handed given (state.told ++ rest)
  pub same : filter (is_told_for state.settings.selected) rest ≡ filter (is_told_for state.settings.selected) pending
  pub none : pending ≡ [] → rest ≡ []

-- Something was handed in in the place of these entries, nothing is left to do, and all that
-- happened for the whole is told or stands for what is pending.
pub record HasFollowed (state : Watched) (rule : LossRule) (width : Width) (setup : Setup) (entries : List Entry) (now : ReceiverUnderWay) : Type 0 where
  pub others : List HandedIn
  pub also : List Given
  pub stands : StandsFor no_check now.receiver any_header (made_of rule width.channels setup) others also
  pub settled : (k : ℕ) → IsSettledAt now.receiver k
  pub each : All (IsOfTrace width.channels) others
  pub whole : now.pending.whole ≡ true → AreOfBytes entries → HappensForWhole state (made_of rule width.channels setup) others also entries now.pending.happened.items

-- nothing is pending
abbrev pub IsNonePending : ReceiverUnderWay → Type 0
IsNonePending now = (now.pending.happened.items ≡ []) × (now.pending.whole ≡ true)

-- What is known of a receiver that is closed: for the whole this happened before, a last part of it
-- untold, and then it gave a rest as it was closed, of which the same is told as of what is
-- pending; and what was counted of it is the same but for flows that aren't selected.
pub record EndsWhole (state : Watched) (made : TableSetup) (channels : ℕ) (entries : List Entry) (pending : List Happening) (closed : Closed) : Type 0 where
  pub handed : List HandedIn
  pub entries_are : AreHandedIn channels entries handed
  pub given : List Given
  pub last : List Happening
  pub happened : HasHappened made handed given (state.told ++ last)
  pub rest : List Given
  pub counted : Closed
  pub received : IsReceived any_header made handed (given ++ rest) counted
  pub same : filter (is_told_for state.settings.selected) (last ++ map Gave rest) ≡ filter (is_told_for state.settings.selected) pending
  pub alike : AreCountedAlike state.settings.selected closed counted

-- the receiver is closed, and all that happened was told or is pending
abbrev pub EndsFollowing : Watched → LossRule → Width → Setup → List Entry → HappeningList → Closed → Type 0
EndsFollowing state rule width setup entries pending closed =
    pending.whole ≡ true → AreOfBytes entries → EndsWhole state (made_of rule width.channels setup) width.channels entries pending.happened.items closed
