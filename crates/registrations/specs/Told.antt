-- What the TLVs of a message tell a modem of its service flows.
use Rattle.std.specs.Prelude.{◌≡◌, ℕ, ◌==◌, List, [], ◌∷◌, ◌++◌, Option, Some, None, if◌then◌else◌}
use Rattle.capture.specs.Fields.{Field}
use Rattle.registrations.specs.Values.{◌>>=◌, fields_of, word_if_there, long_if_there, byte_at, word_at, long_at}
use Rattle.registrations.specs.declared.told.Action.{Action}
use Rattle.registrations.specs.declared.told.Action.TheVariants.{Add, Delete}
use Rattle.registrations.specs.declared.told.UpstreamFlow.{UpstreamFlow}
use Rattle.registrations.specs.declared.told.ChannelSid.{ChannelSid}
use Rattle.registrations.specs.declared.told.Told.{Told}
use Rattle.registrations.specs.declared.told.Told.TheVariants.{Flow, Sid}
use Rattle.registrations.specs.declared.told.ToldFault.{ToldFault}
use Rattle.registrations.specs.declared.told.ToldFault.TheVariants.{Malformed, OutOfMemory}

-- what two tell, one after the other, where both tell something
abbrev pub both : Option (List Told) → Option (List Told) → Option (List Told)
both first second = do
  a ← first
  b ← second
  Some (a ++ b)

-- what TLVs tell, where this is what each tells
abbrev pub told_of : (Field → Option (List Told)) → List Field → Option (List Told)
told_of each [] = Some []
told_of each (field ∷ fields) = both (each field) (told_of each fields)

-- what whole TLVs tell
abbrev pub told_in : (Field → Option (List Told)) → List ℕ → Option (List Told)
told_in each bytes = fields_of bytes >>= told_of each

-- TLV 24: 1 reference, 2 SFID, 3 SID, 16 request and transmission policy
abbrev pub flow_in : List ℕ → Option UpstreamFlow
flow_in bytes = do
  reference ← word_if_there 1 bytes
  sfid ← long_if_there 2 bytes
  sid ← word_if_there 3 bytes
  policy ← long_if_there 16 bytes
  Some (record { reference = reference; sfid = sfid; sid = sid; policy = policy })

abbrev pub action_of : ℕ → Option Action
action_of action = if action == 1 then Some Add else (if action == 2 then Some Delete else None)

-- TLV 47.2.2: 1 upstream channel id, 2 SID, 3 action
abbrev pub channel_in : ℕ → ℕ → List ℕ → Option ChannelSid
channel_in sfid cluster bytes = do
  channel ← byte_at 1 bytes
  sid ← word_at 2 bytes
  action ← byte_at 3 bytes >>= action_of
  Some (record { sfid = sfid; cluster = cluster; channel = channel; sid = sid; action = action })

-- TLV 47.2: 1 cluster id, 2 a channel of the cluster
abbrev pub in_cluster : ℕ → ℕ → Field → Option (List Told)
in_cluster sfid cluster field =
    if field.kind == 2 then (channel_in sfid cluster field.value >>= (λ sid. Some (Sid sid ∷ []))) else Some []

abbrev pub cluster_in : ℕ → List ℕ → Option (List Told)
cluster_in sfid bytes = do
  cluster ← byte_at 1 bytes
  told_in (in_cluster sfid cluster) bytes

-- TLV 47: 1 SFID, 2 a cluster
abbrev pub in_flow : ℕ → Field → Option (List Told)
in_flow sfid field = if field.kind == 2 then cluster_in sfid field.value else Some []

abbrev pub sids_in : List ℕ → Option (List Told)
sids_in bytes = do
  sfid ← long_at 1 bytes
  told_in (in_flow sfid) bytes

-- TLV 24 is an upstream flow, TLV 47 the SIDs of one.
abbrev pub in_message : Field → Option (List Told)
in_message field =
    if field.kind == 24 then (flow_in field.value >>= (λ flow. Some (Flow flow ∷ [])))
    else (if field.kind == 47 then sids_in field.value else Some [])

-- what the TLVs of a whole message tell
abbrev pub told_by : List ℕ → Option (List Told)
told_by tlvs = told_in in_message tlvs

-- TLVs tell nothing where one is malformed; of a failed allocation nothing follows
abbrev pub Refuses : Option (List Told) → ToldFault → Type 0
Refuses told Malformed = told ≡ None
Refuses told OutOfMemory = Unit {0}

-- what was told has been appended
pub record IsTold (told : Option (List Told)) (before after : List Told) : Type 0 where
  pub said : List Told
  pub told_is : told ≡ Some said
  pub appended : after ≡ before ++ said
