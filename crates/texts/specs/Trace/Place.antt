-- What a line of a trace means in its place, after the lines above it.
use Rattle.std.specs.Prelude.{◌≡◌, ◌≤◌, ◌<◌, ◌⊎◌, ℕ, Some, List, [], ◌∷◌, ◌++◌, length, slice_get}
use Rattle.flow_records.specs.declared.record.FlowRecord.{FlowRecord}
use Rattle.lane.specs.declared.sids.SidRow.{SidRow}
use Rattle.receiver.specs.Entries.{Entry, came, decided}
use Rattle.text_lines.specs.declared.fault.TraceKind.{TraceKind}
use Rattle.text_lines.specs.declared.fault.TraceKind.TheVariants.{UnknownLine, SetupLate, FieldCount, BadNumber, BadWord, NotHex, UnknownFlow, TooManyFlows, SameFlow, SameSid, TooShort, PointerPast}
use Rattle.text_lines.specs.Kinds.{IsLeastFault}
use Rattle.text_lines.specs.Format.{Format}
use Rattle.texts.specs.declared.trace.trace_line.TraceLine.{TraceLine}
use Rattle.texts.specs.declared.trace.trace_line.TraceLine.TheVariants as line
use Rattle.texts.specs.Trace.Line.{TraceShape, profile_shape, LineForm, flow_line, sid_line, word_of, Carries, HasFaultByItself}

-- What some lines say: the flows, the rows of service identifiers, and what the input lines say,
-- each in their order. The shape of the trace is given before, and no line says it.
pub record Said : Type 0 where
  pub shape : TraceShape
  pub flows : List FlowRecord
  pub sids : List SidRow
  pub entries : List Entry

-- what no lines say, of a trace of any shape, and of one of the profile's
abbrev pub nothing_said_in : TraceShape → Said
nothing_said_in shape = record { shape = shape; flows = []; sids = []; entries = [] }

abbrev pub nothing_said : ℕ → Said
nothing_said ring = nothing_said_in (profile_shape ring)

-- what lines say together with one more
abbrev pub with_line : Said → TraceLine → Said
with_line said (line.Flow flow_record) = record said { flows = said.flows ++ flow_record ∷ [] }
with_line said (line.Sid row) = record said { sids = said.sids ++ row ∷ [] }
with_line said (line.Input channel input) = record said { entries = said.entries ++ came channel input ∷ [] }
with_line said (line.Gap decision) = record said { entries = said.entries ++ decided decision ∷ [] }

-- ---- the faults of a line in its place

-- the line sets up a flow or a service identifier, by its first word
pub record IsSetupLine (fields : List (List ℕ)) : Type 0 where
  pub form : LineForm
  pub after : List (List ℕ)
  pub are : fields ≡ word_of form ∷ after
  pub sets_up : (form ≡ flow_line) ⊎ (form ≡ sid_line)

-- the line names a flow that no line above gives
abbrev pub NamesUnknownFlow : Said → TraceLine → Type 0
NamesUnknownFlow said (line.Sid row) = length said.flows ≤ row.flow
NamesUnknownFlow said (line.Gap decision) = length said.flows ≤ decision.flow
NamesUnknownFlow said _ = ⊥

-- the line gives one flow too many
abbrev pub IsFlowTooMany : Said → TraceLine → Type 0
IsFlowTooMany said (line.Flow flow_record) = said.shape.flows ≤ length said.flows
IsFlowTooMany said _ = ⊥

-- one of the flows has this service flow identifier
pub record IsSfidAmong (flows : List FlowRecord) (sfid : ℕ) : Type 0 where
  pub k : ℕ
  pub flow_record : FlowRecord
  pub at : slice_get flows k ≡ Some flow_record
  pub sfid_is : flow_record.sfid ≡ sfid

-- it stands in a line above
abbrev pub IsSfidAbove : Said → ℕ → Type 0
IsSfidAbove said = IsSfidAmong said.flows

abbrev pub HasSameFlow : Said → TraceLine → Type 0
HasSameFlow said (line.Flow flow_record) = IsSfidAbove said flow_record.sfid
HasSameFlow said _ = ⊥

-- this channel and this service identifier stand in a line above
pub record IsSidAbove (said : Said) (channel sid : ℕ) : Type 0 where
  pub k : ℕ
  pub row : SidRow
  pub above : slice_get said.sids k ≡ Some row
  pub channel_is : row.channel ≡ channel
  pub sid_is : row.sid ≡ sid

abbrev pub HasSameSid : Said → TraceLine → Type 0
HasSameSid said (line.Sid row) = IsSidAbove said row.channel row.sid
HasSameSid said _ = ⊥

-- the faults that what a line says has after lines that say this
abbrev pub HasFaultAmong : Said → TraceLine → TraceKind → Type 0
HasFaultAmong said line UnknownFlow = NamesUnknownFlow said line
HasFaultAmong said line TooManyFlows = IsFlowTooMany said line
HasFaultAmong said line SameFlow = HasSameFlow said line
HasFaultAmong said line SameSid = HasSameSid said line
HasFaultAmong said line _ = ⊥

-- the fields say something that has this fault after lines that say this
pub record SaysFaulty (said : Said) (fields : List (List ℕ)) (kind : TraceKind) : Type 0 where
  pub line : TraceLine
  pub carries : Carries said.shape fields line
  pub faulty : HasFaultAmong said line kind

-- The faults that a line with these fields has after lines that say this. A line with a fault by
-- itself says nothing; its fault has a lesser number than those of what a line says.
abbrev pub HasLineFault : Said → List (List ℕ) → TraceKind → Type 0
HasLineFault said fields UnknownLine = HasFaultByItself said.shape fields UnknownLine
HasLineFault said fields SetupLate = IsSetupLine fields × (0 < length said.entries)
HasLineFault said fields FieldCount = HasFaultByItself said.shape fields FieldCount
HasLineFault said fields BadNumber = HasFaultByItself said.shape fields BadNumber
HasLineFault said fields BadWord = HasFaultByItself said.shape fields BadWord
HasLineFault said fields NotHex = HasFaultByItself said.shape fields NotHex
HasLineFault said fields UnknownFlow = SaysFaulty said fields UnknownFlow
HasLineFault said fields TooManyFlows = SaysFaulty said fields TooManyFlows
HasLineFault said fields SameFlow = SaysFaulty said fields SameFlow
HasLineFault said fields SameSid = SaysFaulty said fields SameSid
HasLineFault said fields TooShort = ⊥
HasLineFault said fields PointerPast = ⊥

-- ---- what a line adds

-- what a line with these fields makes of what the lines above say
pub record AddsLine (before : Said) (fields : List (List ℕ)) (after : Said) : Type 0 where
  pub line : TraceLine
  pub carries : Carries before.shape fields line
  pub added : after ≡ with_line before line

-- The lines of a trace. A line is taken if it has no fault; of its faults the one of the least kind
-- is reported.
abbrev pub trace_format : Format Said
trace_format = record {
  Takes = λ before fields after. AddsLine before fields after × ((kind : TraceKind) → ¬ (HasLineFault before fields kind));
  HasFault = λ above fields. IsLeastFault (HasLineFault above fields);
}
