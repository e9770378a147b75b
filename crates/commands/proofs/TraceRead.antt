-- What was read of the lines of a trace is that trace, and why it was not read.
use Rattle.std.proofs.Common.{ℕ, List, Option}
use Rattle.text_lines.specs.declared.fault.TextFault.{TextFault}
use Rattle.text_lines.specs.declared.fault.TextFault.TheVariants.{Trace, Cut, OutOfMemory}
use Rattle.texts.specs.Inside.Reading.{HasRead}
use Rattle.texts.specs.Replay.{IsReportFault}
use Rattle.texts.specs.Trace.{IsGivenBy, IsTrace}
use Rattle.texts.specs.Trace.Place.{Said, nothing_said, trace_format}
use Rattle.texts.specs.declared.trace.Trace.{Trace as TraceValue}
use Rattle.texts.specs.declared.trace.reading.Reading.{Reading}
use Rattle.engines.specs.LinesRead.{HasReadLines, IsLinesFault}

module _ (ring : ℕ) where
  -- the trace that the lines give
  pub trace_read : (mailbox : ℕ) (known : Option (List ℕ)) (reading : Reading)
      → (read : HasReadLines trace_format (nothing_said ring) (λ (said : Said) (reading : Reading). HasRead said reading) known reading)
      → (trace : TraceValue) → ((said : Said) → HasRead said reading → IsGivenBy mailbox said trace) → IsTrace ring mailbox read.input trace
  trace_read mailbox known reading read trace given = record { said = read.state; read = read.read; given = given read.state read.stands }

  -- and why there is none
  pub trace_fault : (input : List ℕ) (fault : TextFault) → IsLinesFault trace_format (nothing_said ring) input fault → IsReportFault ring input fault
  trace_fault input (Trace fault) faulty = faulty
  trace_fault input (Cut fault) faulty = absurd faulty
  trace_fault input OutOfMemory faulty = tt
