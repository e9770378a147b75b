-- That bytes are bytes: a definition's list of numbers has any, and what comes in has those below
-- 256.
use Rattle.std.specs.Prelude.{ℕ, ◌<◌, Option, Some, None, List}
use Rattle.std.specs.List.{All, AllByRecursion}
use Rattle.docsis_wire.specs.declared.segment.Segment.{Segment}
use Rattle.flow_core.specs.Events.{FlowEvent, arrives, gap, gap_to, skip_to}

-- each of these numbers is a byte
abbrev pub AreBytes : List ℕ → Type 0
AreBytes bytes = All (λ byte. byte < 256) bytes

-- a segment was lost, or has such a payload
abbrev pub IsLostOrCarries : (List ℕ → Type 0) → Option Segment → Type 0
IsLostOrCarries P None = Unit {0}
IsLostOrCarries P (Some segment) = P segment.payload

-- each segment of a settled list that isn't lost carries bytes
abbrev pub CarryBytes : List (Option Segment) → Type 0
CarryBytes settled = AllByRecursion (IsLostOrCarries AreBytes) settled

-- an event brings no segment, or one with such a payload
abbrev pub Brings : (List ℕ → Type 0) → FlowEvent → Type 0
Brings P (arrives segment) = P segment.payload
Brings P gap = Unit {0}
Brings P (gap_to number) = Unit {0}
Brings P (skip_to number) = Unit {0}

-- each segment that arrives carries bytes
abbrev pub BringBytes : List FlowEvent → Type 0
BringBytes events = AllByRecursion (Brings AreBytes) events
