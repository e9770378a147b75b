-- What the setup lines of a trace gave so far, and what becomes of a line after others.
use Rattle.std.specs.Prelude.{◌≡◌, ◌<◌, ◌≤◌, ◌↔◌, ℕ, List, [], IsTrue, Result, MatchResult}
use Rattle.std.specs.BTreeSet.{BTreeSet, contains}
use Rattle.std.specs.Ordering.{nat_cmp}
use Rattle.lane.specs.Inside.Seen.{HasMarked}
use Rattle.lane.specs.Limits.{sid_limit}
use Rattle.lane.specs.declared.sids.table.SidTable.{SidTable}
use Rattle.receiver.specs.declared.setup.Setup.{Setup}
use Rattle.receiver.specs.Widths.{CanReceiveWithin}
use Rattle.text_lines.specs.declared.fault.LineFault.{LineFault}
use Rattle.text_lines.specs.declared.fault.TraceKind.{TraceKind}
use Rattle.text_lines.specs.Inside.LineFault.{IsLineFault}
use Rattle.text_lines.specs.Kinds.{IsLeastFault}
use Rattle.texts.specs.declared.trace.trace_line.TraceLine.{TraceLine}
use Rattle.texts.specs.declared.trace.trace_line.TraceLine.TheVariants as line
use Rattle.texts.specs.Trace.Line.{TraceShape, Carries}
use Rattle.texts.specs.Trace.Place.{Said, IsSfidAmong, IsSidAbove, HasFaultAmong, with_line}

-- the shape of the trace, and the setup that the lines so far give
pub record SetupSoFar : Type 0 where
  pub shape : TraceShape
  pub setup : Setup

-- what lines say that give this setup alone
abbrev pub setup_said : TraceShape → Setup → Said
setup_said shape setup = record { shape = shape; flows = setup.flows.items; sids = setup.sids.items; entries = [] }

-- a receiver of that width can be set up with it, if the rings have room, and its service
-- identifiers and service flow identifiers are those that were seen
pub record HoldsSetup (shape : TraceShape) (setup : Setup) (seen_sids : SidTable) (seen_sfids : BTreeSet ℕ) : Type 0 where
  pub can_receive : 1 ≤ shape.ring → CanReceiveWithin shape.channels shape.flows setup
  pub channels : seen_sids.channels ≡ shape.channels
  pub seen : (channel sid : ℕ) → sid < sid_limit → HasMarked seen_sids channel sid ↔ IsSidAbove (setup_said shape setup) channel sid
  pub named : (sfid : ℕ) → IsTrue (contains nat_cmp seen_sfids sfid) ↔ IsSfidAmong setup.flows.items sfid

-- it is the setup that the lines say
pub record HasSetup (said : Said) (so_far : SetupSoFar) : Type 0 where
  pub shape : so_far.shape ≡ said.shape
  pub flows : so_far.setup.flows.items ≡ said.flows
  pub sids : so_far.setup.sids.items ≡ said.sids

-- the line sets something up
abbrev pub SetsUp : TraceLine → Type 0
SetsUp (line.Flow flow_record) = Unit {0}
SetsUp (line.Sid row) = Unit {0}
SetsUp _ = ⊥

-- fields of some line say this
abbrev pub IsCarried : TraceShape → TraceLine → Type 0
IsCarried shape line = (fields : List (List ℕ)) × Carries shape fields line

-- what a line says has no fault after lines that say this, and something has all of it
pub record HasMore (Has : Said → Type 0) (said : Said) (line : TraceLine) : Type 0 where
  pub faultless : (kind : TraceKind) → ¬ (HasFaultAmong said line kind)
  pub has : Has (with_line said line)

-- Whatever lines something has: what a line says is added, or the least of its faults is reported.
abbrev pub AddsTo : {T : Type 0} → (Said → T → Type 0) → T → TraceLine → Result (Unit {0}) LineFault → T → Type 0
AddsTo Has before line result after =
    (said : Said) → Has said before
    → MatchResult result (λ _. HasMore (λ more. Has more after) said line) (IsLineFault (IsLeastFault (HasFaultAmong said line)))
