use Rattle.std.proofs.Common.{◌≡◌, ℕ, List, refl}
use Rattle.text_lines.specs.declared.fault.ParseFault.{ParseFault}
use Rattle.text_lines.specs.declared.fault.ParseFault.TheVariants.{Line, OutOfMemory}
use Rattle.text_lines.specs.Lines.{lines_of}
use Rattle.text_lines.proofs.LinesReadOneWay as lines
use Rattle.texts.specs.declared.trace.Trace.{Trace}
use Rattle.texts.specs.Trace.{IsTrace, IsTraceFault}
use Rattle.texts.specs.Trace.Place.{nothing_said, trace_format}
use Rattle.texts.proofs.OneTrace.{trace_is_determined}
use Rattle.texts.proofs.laws.faulty_input_is_no_trace.Goals as goal

no_trace : (ring mailbox : ℕ) (input : List ℕ) (trace : Trace) (fault : ParseFault) → IsTrace ring mailbox input trace
    → IsTraceFault ring input fault → fault ≡ OutOfMemory
no_trace ring mailbox input trace (Line fault) is faulty =
    absurd (lines.read_without_fault trace_format trace_is_determined (nothing_said ring) (lines_of input) is.said fault is.read faulty)
no_trace ring mailbox input trace OutOfMemory is faulty = refl

pub returns : goal.returns
returns c = no_trace
