-- The lines of a map, one after another.
use Rattle.std.specs.Prelude.{◌≡◌, ℕ, ◌+◌, ◌==◌, ◌&&◌, ◌||◌, nat_le, List, [], ◌∷◌, ◌++◌, length, Option, Some, None, if◌then◌else◌}
use Rattle.std.specs.List.{list_any}
use Rattle.text_lines.specs.Lines.{lines_of, fields_of}
use Rattle.capture_map.specs.Line.{Says, HasFaultByItself}
use Rattle.capture_map.specs.declared.map.MapFlow.{MapFlow}
use Rattle.capture_map.specs.declared.map.MapSid.{MapSid}
use Rattle.capture_map.specs.declared.map.MapChannel.{MapChannel}
use Rattle.capture_map.specs.declared.map.CaptureMap.{CaptureMap}
use Rattle.capture_map.specs.declared.map_line.MapLine.{MapLine}
use Rattle.capture_map.specs.declared.map_line.MapLine.TheVariants.{Flow, Channel, Sid}
use Rattle.capture_map.specs.declared.map_fault.MapKind.{MapKind}
use Rattle.capture_map.specs.declared.map_fault.MapKind.TheVariants.{UnknownChannel, UnknownFlow, TooManyFlows, SameFlow, SameChannel, SameSid}
use Rattle.capture_map.specs.declared.map_fault.MapFault.{MapFault}
use Rattle.capture_map.specs.declared.map_fault.MapFault.TheVariants.{Line, OutOfMemory}

-- what some lines say, each kind in its order
pub record Said : Type 0 where
  pub flows : List MapFlow
  pub channels : List MapChannel
  pub sids : List MapSid

abbrev pub nothing_said : Said
nothing_said = record { flows = []; channels = []; sids = [] }

-- what they say together with one more
abbrev pub with_line : Said → MapLine → Said
with_line said (Flow flow) = record said { flows = said.flows ++ flow ∷ [] }
with_line said (Channel channel) = record said { channels = said.channels ++ channel ∷ [] }
with_line said (Sid row) = record said { sids = said.sids ++ row ∷ [] }

-- a map may have so many flows
abbrev pub most_flows : ℕ
most_flows = 16384

-- the first fault that what a line says has after lines that say this
abbrev pub fault_of_flow : Said → MapFlow → Option MapKind
fault_of_flow said flow =
    if nat_le most_flows (length said.flows) then Some TooManyFlows
    else (if list_any (λ other. other.sfid == flow.sfid) said.flows then Some SameFlow else None)

abbrev pub fault_of_channel : Said → MapChannel → Option MapKind
fault_of_channel said one =
    if list_any (λ other. other.channel == one.channel || other.id == one.id) said.channels then Some SameChannel else None

abbrev pub fault_of_sid : Said → MapSid → Option MapKind
fault_of_sid said row =
    if list_any (λ other. other.channel == row.channel) said.channels
    then (if nat_le (length said.flows) row.flow then Some UnknownFlow
    else (if list_any (λ other. other.channel == row.channel && other.sid == row.sid) said.sids then Some SameSid else None))
    else Some UnknownChannel

abbrev pub fault_in_place : Said → MapLine → Option MapKind
fault_in_place said (Flow flow) = fault_of_flow said flow
fault_in_place said (Channel channel) = fault_of_channel said channel
fault_in_place said (Sid row) = fault_of_sid said row

-- the fault of a line with these fields after lines that say this: one that it has by itself, or
-- one that what it says has there
pub data HasFault (said : Said) (fields : List (List ℕ)) (kind : MapKind) : Type 0 where
  by_itself : HasFaultByItself fields kind → HasFault said fields kind
  in_place : (line : MapLine) → Says line fields → fault_in_place said line ≡ Some kind → HasFault said fields kind

-- what comes of lines: what they say together, or the first faulty one, by its number, and the kind
-- of its fault
pub data Outcome : Type 0 where
  all_said : Said → Outcome
  faulty_line : ℕ → MapKind → Outcome

-- After lines that say this, lines whose first one has this number come to this; a line without
-- fields changes nothing.
pub data Reads : Said → ℕ → List (List ℕ) → Outcome → Type 0 where
  no_lines : {said : Said} {number : ℕ} → Reads said number [] (all_said said)
  skipped : {said : Said} {number : ℕ} {line : List ℕ} {lines : List (List ℕ)} {outcome : Outcome}
      → fields_of line ≡ [] → Reads said (number + 1) lines outcome → Reads said number (line ∷ lines) outcome
  taken : {said : Said} {number : ℕ} {line : List ℕ} {lines : List (List ℕ)} {outcome : Outcome} (says : MapLine)
      → Says says (fields_of line) → fault_in_place said says ≡ None → Reads (with_line said says) (number + 1) lines outcome
      → Reads said number (line ∷ lines) outcome
  faulty : {said : Said} {number : ℕ} {line : List ℕ} {lines : List (List ℕ)} {kind : MapKind}
      → HasFault said (fields_of line) kind → Reads said number (line ∷ lines) (faulty_line number kind)

-- what a map says
abbrev pub said_by : CaptureMap → Said
said_by map = record { flows = map.flows.items; channels = map.channels.items; sids = map.sids.items }

-- the text is this map
abbrev pub IsMap : List ℕ → CaptureMap → Type 0
IsMap text map = Reads nothing_said 1 (lines_of text) (all_said (said_by map))

-- why a text is no map: its first faulty line; of a failed allocation nothing follows
abbrev pub IsMapFault : List ℕ → MapFault → Type 0
IsMapFault text (Line number kind) = Reads nothing_said 1 (lines_of text) (faulty_line number kind)
IsMapFault text OutOfMemory = Unit {0}
