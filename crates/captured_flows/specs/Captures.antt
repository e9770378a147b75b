-- What the bursts of a capture with a map spell: what is handed in to a receiver, in order.
use Rattle.std.specs.Prelude.{◌≡◌, ℕ, ◌+◌, Some, None, List, [], ◌∷◌, ◌++◌, map, slice_get, slice_set, unwrap_or}
use Rattle.flow_records.specs.declared.record.FlowRecord.{FlowRecord}
use Rattle.lane.specs.declared.sids.SidRow.{SidRow}
use Rattle.lane.specs.declared.input.Input.{Input}
use Rattle.lane.specs.declared.input.Input.TheVariants.{Grant, Burst}
use Rattle.bonded_flows.specs.Table.{TableSetup}
use Rattle.receiver.specs.declared.reply.Reply.{Reply}
use Rattle.loss_rule.specs.declared.rule.LossRule.{LossRule}
use Rattle.receiver.specs.declared.setup.Setup.{Setup}
use Rattle.receiver.specs.declared.setup.SetupError.{SetupError}
use Rattle.receiver.specs.declared.setup.SetupError.TheVariants as setup_error
use Rattle.receiver.specs.Widths.{IsSetupErrorWithin}
use Rattle.capture_map.specs.declared.map.CaptureMap.{CaptureMap}
use Rattle.capture_map.specs.declared.map.MapFlow.{MapFlow}
use Rattle.capture_map.specs.declared.map.MapSid.{MapSid}
use Rattle.capture_rules.specs.declared.arrival.Arrival.{Arrival}
use Rattle.captured_flows.specs.declared.sound_burst.SoundBurst.{SoundBurst}
use Rattle.captured_flows.specs.declared.captured_burst.CapturedBurst.{CapturedBurst}
use Rattle.captured_flows.specs.declared.burst_taken.BurstTaken.{BurstTaken}
use Rattle.captured_flows.specs.declared.burst_taken.BurstTaken.TheVariants as taken
use Rattle.captured_flows.specs.Acts.{Act, alone}
use Rattle.captured_flows.specs.Sids.{channel_of, flow_of}
use Rattle.captured_flows.specs.Sound.{granted_to, IsSound, IsUnsound}
use Rattle.captured_flows.specs.Flow.{FlowView, IsInput, Comes, EndsWaiting}

-- a burst that is refused, and its grant
abbrev pub refused_grant : CapturedBurst → Input
refused_grant burst = Grant 0 burst.sid (granted_to burst.granted burst.bytes)

abbrev pub refused_burst : CapturedBurst → Input
refused_burst burst = Burst 0 burst.check burst.bytes

-- They are handed in as they come, and this is told of the burst.
pub record IsRefused (channel : ℕ) (burst : CapturedBurst) (answered : Reply) (made : TableSetup) (handed more : List Act) : Type 0 where
  pub granting : Reply
  pub granted : List Act
  pub grant : IsInput alone channel (refused_grant burst) granting made handed granted
  pub coming : List Act
  pub is_burst : IsInput alone channel (refused_burst burst) answered made (handed ++ granted) coming
  pub all : more ≡ granted ++ coming

-- **With this map**, where a receiver is made with this, and what is held for longer than `wait` is
-- let go. In what follows `handed` is what was handed in before, and `more` what is handed in then.
module _ (capture_map : CaptureMap) (made : TableSetup) (wait : ℕ) where
  -- **A burst comes**: one of an upstream channel or a service identifier that the map doesn't have
  -- is passed over; one that its lane refuses is handed in at once, and its flow never sees it; any
  -- other comes to its flow.
  pub data SpellsBurst (flows : List FlowView) (burst : CapturedBurst) (handed : List Act) : BurstTaken → List Act → List FlowView → Type 0 where
    of_no_channel : channel_of capture_map.channels.items burst.channel ≡ None → SpellsBurst flows burst handed taken.UnknownChannel [] flows
    of_no_flow : (channel : ℕ) → channel_of capture_map.channels.items burst.channel ≡ Some channel → flow_of capture_map.sids.items channel burst.sid ≡ None
        → SpellsBurst flows burst handed taken.UnknownSid [] flows
    is_refused : {more : List Act} (channel flow : ℕ) (answered : Reply) → channel_of capture_map.channels.items burst.channel ≡ Some channel
        → flow_of capture_map.sids.items channel burst.sid ≡ Some flow → IsUnsound burst → IsRefused channel burst answered made handed more
        → SpellsBurst flows burst handed (taken.Refused answered) more flows
    comes : {more : List Act} (channel k : ℕ) (one : Arrival SoundBurst) (flow flow' : FlowView) → channel_of capture_map.channels.items burst.channel ≡ Some channel
        → flow_of capture_map.sids.items channel burst.sid ≡ Some k → IsSound channel burst one → slice_get flows k ≡ Some flow
        → Comes made wait k one flow handed more flow' → SpellsBurst flows burst handed (taken.Waits k) more (slice_set flows k flow')

  -- **Bursts come one after another.**
  pub data SpellsBursts (flows : List FlowView) (handed : List Act) : List CapturedBurst → List Act → List FlowView → Type 0 where
    none_comes : SpellsBursts flows handed [] [] flows
    one_more_comes : {bursts : List CapturedBurst} {burst : CapturedBurst} {told : BurstTaken} {first later : List Act} {between flows' : List FlowView}
        → SpellsBursts flows handed bursts first between → SpellsBurst between burst (handed ++ first) told later flows'
        → SpellsBursts flows handed (bursts ++ burst ∷ []) (first ++ later) flows'

module _ (made : TableSetup) (wait : ℕ) where
  -- **Nothing more comes** of the first n flows: of one after another all that waits is handed on,
  -- and its beginning ends.
  pub data EndsAll (flows : List FlowView) (handed : List Act) : ℕ → List Act → List FlowView → Type 0 where
    none_ends : EndsAll flows handed 0 [] flows
    one_more_ends : {n : ℕ} {first later : List Act} {between : List FlowView} (flow flow' : FlowView)
        → EndsAll flows handed n first between → slice_get between n ≡ Some flow → EndsWaiting made wait n flow (handed ++ first) later flow'
        → EndsAll flows handed (n + 1) (first ++ later) (slice_set between n flow')

-- ============ What a map is to a receiver ============

-- a flow's record: where its first number isn't known it is 0, which nothing comes of, since the
-- flow begins before something is handed in
abbrev pub record_of : MapFlow → FlowRecord
record_of flow = record { sfid = flow.sfid; first = unwrap_or flow.first 0; window = flow.window; clusters = flow.clusters; ring = 1 }

abbrev pub row_of : MapSid → SidRow
row_of row = record { channel = row.channel; sid = row.sid; flow = row.flow }

-- what a receiver of 16 channels is made with, of a map
abbrev pub made_from : LossRule → CaptureMap → TableSetup
made_from rule capture_map =
    record { rule = rule; records = map record_of capture_map.flows.items; channels = 16; rows = map row_of capture_map.sids.items }

-- a fault of what a receiver is set up with, of a map; of a failed allocation nothing follows
abbrev pub IsFaultOf : CaptureMap → SetupError → Type 0
IsFaultOf capture_map setup_error.OutOfMemory = Unit {0}
IsFaultOf capture_map error =
    (setup : Setup) × (setup.flows.items ≡ map record_of capture_map.flows.items) × (setup.sids.items ≡ map row_of capture_map.sids.items)
    × IsSetupErrorWithin 16 16384 setup error
