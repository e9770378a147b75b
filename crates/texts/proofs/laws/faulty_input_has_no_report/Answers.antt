use Rattle.std.proofs.Common.{◌≡◌, ℕ, List, refl}
use Rattle.text_lines.specs.Capacities.{default_capacity}
use Rattle.text_lines.specs.declared.fault.TextFault.{TextFault}
use Rattle.text_lines.specs.declared.fault.TextFault.TheVariants.{Trace, Cut, OutOfMemory}
use Rattle.text_lines.specs.declared.fault.ParseFault.{ParseFault}
use Rattle.text_lines.specs.declared.fault.ParseFault.TheVariants as parse
use Rattle.texts.specs.declared.trace.Trace.{Trace as TraceValue}
use Rattle.text_lines.specs.Format.{IsRead}
use Rattle.text_lines.specs.Lines.{lines_of}
use Rattle.text_lines.proofs.LinesReadOneWay.{read_without_fault}
use Rattle.texts.specs.Trace.{IsTrace, IsTraceFault}
use Rattle.texts.specs.Trace.Place.{Said, nothing_said, trace_format}
use Rattle.texts.proofs.OneTrace.{trace_is_determined}
use Rattle.texts.specs.Replay.{IsReportFault}
use Rattle.texts.proofs.laws.faulty_input_has_no_report.Goals as goal

-- a faulty input is no trace
abbrev FaultyAreNone : Type 0
FaultyAreNone =
    (ring mailbox : ℕ) (input : List ℕ) (trace : TraceValue) (fault : ParseFault) → IsTrace ring mailbox input trace → IsTraceFault ring input fault
    → fault ≡ parse.OutOfMemory

no_report : FaultyAreNone → (ring mailbox : ℕ) (input : List ℕ) (trace : TraceValue) → IsTrace ring mailbox input trace
    → (fault : TextFault) → IsReportFault ring input fault → fault ≡ OutOfMemory
no_report none ring mailbox input trace is (Trace fault) h =
    let e = none ring mailbox input trace (parse.Line fault) is h in absurd cc
no_report none ring mailbox input trace is (Cut fault) h = absurd h
no_report none ring mailbox input trace is OutOfMemory h = refl

-- nor are its lines read
not_read : (input : List ℕ) (said : Said) → IsRead trace_format (nothing_said default_capacity) (lines_of input) said
    → (fault : TextFault) → IsReportFault default_capacity input fault → fault ≡ OutOfMemory
not_read input said read (Trace fault) h =
    absurd (read_without_fault trace_format trace_is_determined (nothing_said default_capacity) (lines_of input) said fault read h)
not_read input said read (Cut fault) h = absurd h
not_read input said read OutOfMemory h = refl

pub returns-clause-replay : goal.returns-clause-replay
returns-clause-replay c = λ input text fault is h.
    not_read input is.said is.read fault h

pub returns-clause-run : goal.returns-clause-run
returns-clause-run c = λ ring mailbox input text fault is h.
    no_report c.faulty_input_is_no_trace.ensures ring mailbox input is.trace is.is_trace fault h

pub returns-clause-replay_by : goal.returns-clause-replay_by
returns-clause-replay_by c = λ rule input text fault is h.
    not_read input is.said is.read fault h

pub returns-clause-run_by : goal.returns-clause-run_by
returns-clause-run_by c = λ rule ring mailbox input text fault is h.
    no_report c.faulty_input_is_no_trace.ensures ring mailbox input is.trace is.is_trace fault h
