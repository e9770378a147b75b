-- The fault of a line of a trace by itself.
use Rattle.std.specs.Prelude.{ℕ, List}
use Rattle.text_lines.specs.declared.fault.TraceKind.{TraceKind}
use Rattle.text_lines.specs.Kinds.{IsLeastFault}
use Rattle.texts.specs.Trace.Line.{TraceShape, HasFaultByItself}

-- of the faults that a trace's line has by itself, this is the least
abbrev pub IsLeastFaultByItself : TraceShape → List (List ℕ) → TraceKind → Type 0
IsLeastFaultByItself shape fields = IsLeastFault (HasFaultByItself shape fields)
