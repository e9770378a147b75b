-- The faults of a map and of one of its lines.
use Rattle.std.specs.Prelude.{ℕ, List, codes}
use Rattle.capture_map.specs.declared.map_fault.MapKind.{MapKind}
use Rattle.capture_map.specs.declared.map_fault.MapKind.TheVariants.{UnknownLine, FieldCount, BadNumber, UnknownChannel, UnknownFlow, TooManyFlows, SameFlow, SameChannel, SameSid}
use Rattle.capture_map.specs.declared.map_fault.LineFault.{LineFault}
use Rattle.capture_map.specs.declared.map_fault.LineFault.TheVariants as line
use Rattle.capture_map.specs.declared.map_fault.MapFault.{MapFault}
use Rattle.capture_map.specs.declared.map_fault.MapFault.TheVariants as map

-- the words for a kind of fault
abbrev pub kind_text : MapKind → List ℕ
kind_text UnknownLine = codes "unknown line"
kind_text FieldCount = codes "wrong number of fields"
kind_text BadNumber = codes "bad number"
kind_text UnknownChannel = codes "unknown channel"
kind_text UnknownFlow = codes "unknown flow"
kind_text TooManyFlows = codes "too many flows"
kind_text SameFlow = codes "flow given before"
kind_text SameChannel = codes "channel given before"
kind_text SameSid = codes "sid given before"

-- the fault of a map whose line of this number has this fault
abbrev pub fault_at : ℕ → LineFault → MapFault
fault_at number (line.Kind kind) = map.Line number kind
fault_at number line.OutOfMemory = map.OutOfMemory

-- why a line was not read: a fault of a kind that it has, or a failed allocation
abbrev pub IsLineFault : (MapKind → Type 0) → LineFault → Type 0
IsLineFault HasFault (line.Kind kind) = HasFault kind
IsLineFault HasFault line.OutOfMemory = Unit {0}
