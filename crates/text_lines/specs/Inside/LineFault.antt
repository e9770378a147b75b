-- The fault of one line, of one of its fields, and what it is to the whole input.
use Rattle.std.specs.Prelude.{◌≡◌, ℕ, List}
use Rattle.docsis_wire.specs.declared.segment.SegmentFault.{SegmentFault}
use Rattle.docsis_wire.specs.declared.segment.SegmentFault.TheVariants as segment
use Rattle.text_lines.specs.declared.fault.TraceKind.{TraceKind}
use Rattle.text_lines.specs.declared.fault.TraceKind.TheVariants.{NotHex, TooShort, PointerPast}
use Rattle.text_lines.specs.declared.fault.LineFault.{LineFault}
use Rattle.text_lines.specs.declared.fault.LineFault.TheVariants as line
use Rattle.text_lines.specs.declared.fault.ParseFault.{ParseFault}
use Rattle.text_lines.specs.declared.fault.ParseFault.TheVariants as parse
use Rattle.text_lines.specs.Field.{IsHex}
use Rattle.text_lines.specs.Number.{IsNumberIn}

-- why a line was not read: a fault of a kind that it has, or a failed allocation
abbrev pub IsLineFault : (TraceKind → Type 0) → LineFault → Type 0
IsLineFault HasFault (line.Kind kind) = HasFault kind
IsLineFault HasFault line.OutOfMemory = Unit {0}

-- the fault of an input whose line of this number has this fault
abbrev pub fault_at : ℕ → LineFault → ParseFault
fault_at number (line.Kind kind) = parse.Line (record { line = number; kind = kind })
fault_at number line.OutOfMemory = parse.OutOfMemory

-- the fault of an input whose line of this number was not read: one of a kind that the line has, or
-- a failed allocation
abbrev pub IsFaultAt : ℕ → (TraceKind → Type 0) → ParseFault → Type 0
IsFaultAt number HasFault (parse.Line fault) = (fault.line ≡ number) × HasFault fault.kind
IsFaultAt number HasFault parse.OutOfMemory = Unit {0}

-- the fault of a line whose segment has this one
abbrev pub line_fault_of_segment : SegmentFault → LineFault
line_fault_of_segment segment.TooShort = line.Kind TooShort
line_fault_of_segment segment.PointerPast = line.Kind PointerPast
line_fault_of_segment segment.OutOfMemory = line.OutOfMemory

-- the field has a fault of this kind: it spells no bytes
abbrev pub HasHexFault : List ℕ → TraceKind → Type 0
HasHexFault field kind = (kind ≡ NotHex) × ¬ IsHex field

-- the field is no number in this range
abbrev pub IsNoNumberIn : List ℕ → ℕ → ℕ → Type 0
IsNoNumberIn field least most = (number : ℕ) → ¬ IsNumberIn field least most number
