-- The map that messages give which tell modems their SIDs.
use Rattle.std.specs.Prelude.{ℕ, ◌+◌, ◌-◌, ◌^◌, min, ◌==◌, ◌&&◌, nat_lt, Bool, true, List, [], ◌∷◌, ◌++◌, length, fold, Option, Some, None, unwrap_or, if◌then◌else◌}
use Rattle.registrations.specs.Joining.{WholeParts}
use Rattle.registrations.specs.Told.{told_by}
use Rattle.registrations.specs.declared.part.MessageName.{MessageName}
use Rattle.registrations.specs.declared.part.MessageName.TheVariants.{RegRspMp, DbcReq}
use Rattle.registrations.specs.declared.told.Action.{Action}
use Rattle.registrations.specs.declared.told.Action.TheVariants.{Add, Delete}
use Rattle.registrations.specs.declared.told.ChannelSid.{ChannelSid}
use Rattle.registrations.specs.declared.told.Told.{Told}
use Rattle.registrations.specs.declared.told.Told.TheVariants.{Flow, Sid}
use Rattle.registered_map.specs.Places.{most_flows, most_channels, place_of_flow, place_of_channel, owner_of, raise_clusters}
use Rattle.registered_map.specs.declared.telling.Telling.{Telling}
use Rattle.registered_map.specs.declared.telling.RegisteredFlow.{RegisteredFlow}
use Rattle.registered_map.specs.declared.telling.RegisteredChannel.{RegisteredChannel}
use Rattle.registered_map.specs.declared.telling.RegisteredSid.{RegisteredSid}
use Rattle.registered_map.specs.declared.telling.Remark.{Remark}
use Rattle.registered_map.specs.declared.telling.RemarkKind.{RemarkKind}
use Rattle.registered_map.specs.declared.telling.RemarkKind.TheVariants.{Deleted, OfAnotherFlow, LeftOut}
use Rattle.registered_map.specs.declared.remarks.Remarks.{Remarks}

-- a whole message, and when and as which of its capture's records its last part came
pub record CapturedMessage : Type 0 where
  pub whole : WholeParts
  pub nanoseconds : ℕ
  pub place : ℕ

abbrev pub telling_of : CapturedMessage → Telling
telling_of message = record {
  modem = message.whole.modem;
  message = message.whole.message;
  nanoseconds = message.nanoseconds;
  place = message.place;
}

-- a modem does what a message tells, but for one whose registration is refused
abbrev pub is_let_in : MessageName → Bool
is_let_in (RegRspMp sid response) = response == 0
is_let_in (DbcReq transaction) = true

-- what a message tells such a modem: nothing where a TLV is malformed
abbrev pub told_in : WholeParts → List Told
told_in whole = if is_let_in whole.message then unwrap_or (told_by whole.tlvs) [] else []

-- remarks, up to the most, and how many more there were, up to 2^64 − 1
pub record RemarksMade : Type 0 where
  pub noted : List Remark
  pub more : ℕ

abbrev pub no_remarks : RemarksMade
no_remarks = record { noted = []; more = 0 }

abbrev pub most_remarks : ℕ
most_remarks = 1024

abbrev pub with_remark : RemarksMade → Remark → RemarksMade
with_remark made remark =
    if nat_lt (length made.noted) most_remarks then record made { noted = made.noted ++ remark ∷ [] }
    else record made { more = min (made.more + 1) (2 ^ 64 - 1) }

abbrev pub remarks_in : Remarks → RemarksMade
remarks_in remarks = record { noted = remarks.noted.items; more = remarks.more }

-- what was registered so far
pub record Registered : Type 0 where
  pub flows : List RegisteredFlow
  pub channels : List RegisteredChannel
  pub sids : List RegisteredSid
  pub remarks : RemarksMade

abbrev pub nothing_registered : Registered
nothing_registered = record { flows = []; channels = []; sids = []; remarks = no_remarks }

-- something is remarked
abbrev pub remarked : Registered → Telling → RemarkKind → ChannelSid → Registered
remarked so_far telling kind told =
    record so_far { remarks = with_remark so_far.remarks (record { kind = kind; told = told; telling = telling }) }

-- A map can say a cluster of 0 to 7 and a SID of 0 to 16,383, and has so many channels and flows:
-- there is room for the one at this place.
abbrev pub can_say : ChannelSid → ℕ → ℕ → Bool
can_say told channel flow = nat_lt told.cluster 8 && nat_lt told.sid 16384 && nat_lt channel most_channels && nat_lt flow most_flows

-- a channel and a flow, at their places, are named where they weren't before; of a flow that was
-- the clusters are raised
abbrev pub with_channel : Telling → ChannelSid → ℕ → List RegisteredChannel → List RegisteredChannel
with_channel telling told channel channels =
    if channel == length channels then channels ++ record { channel = channel; id = told.channel; telling = telling } ∷ [] else channels

abbrev pub with_flow : Telling → ChannelSid → ℕ → List RegisteredFlow → List RegisteredFlow
with_flow telling told flow flows =
    if flow == length flows then flows ++ record { sfid = told.sfid; clusters = told.cluster + 1; telling = telling } ∷ []
    else raise_clusters flow (told.cluster + 1) flows

-- a SID that was added to no flow is added to this one
abbrev pub with_row : Registered → Telling → ChannelSid → ℕ → ℕ → Registered
with_row so_far telling told channel flow = record so_far {
  flows = with_flow telling told flow so_far.flows;
  channels = with_channel telling told channel so_far.channels;
  sids = so_far.sids ++ record { channel = channel; sid = told.sid; flow = flow; telling = telling } ∷ [];
}

-- one that was added to this flow is of this cluster too; and one that was added to another flow
-- stays with that
abbrev pub given_to : Registered → Telling → ChannelSid → ℕ → ℕ → Option ℕ → Registered
given_to so_far telling told channel flow None = with_row so_far telling told channel flow
given_to so_far telling told channel flow (Some owner) =
    if owner == flow then record so_far { flows = raise_clusters flow (told.cluster + 1) so_far.flows }
    else remarked so_far telling OfAnotherFlow told

-- by the places of its channel and its flow a SID is added
abbrev pub added_at : Registered → Telling → ChannelSid → ℕ → ℕ → Registered
added_at so_far telling told channel flow =
    if can_say told channel flow then given_to so_far telling told channel flow (owner_of channel told.sid so_far.sids)
    else remarked so_far telling LeftOut told

abbrev pub with_action : Registered → Telling → ChannelSid → Action → Registered
with_action so_far telling told Add =
    added_at so_far telling told (place_of_channel told.channel so_far.channels) (place_of_flow told.sfid so_far.flows)
with_action so_far telling told Delete = remarked so_far telling Deleted told

-- what one thing told adds; that of an upstream flow alone adds nothing
abbrev pub with_told : Telling → Registered → Told → Registered
with_told telling so_far (Flow flow) = so_far
with_told telling so_far (Sid told) = with_action so_far telling told told.action

-- what a message adds
abbrev pub with_message : Registered → CapturedMessage → Registered
with_message so_far message = fold (with_told (telling_of message)) so_far (told_in message.whole)

-- **The map that messages give**, one after another.
abbrev pub registered : List CapturedMessage → Registered
registered messages = fold with_message nothing_registered messages
