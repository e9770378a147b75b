use Rattle.std.proofs.Common.{◌≡◌, ◌≢◌, ℕ, List, refl, ap}
use Rattle.text_lines.specs.declared.fault.ParseFault.{ParseFault}
use Rattle.text_lines.specs.declared.fault.ParseFault.TheVariants.{Line, OutOfMemory}
use Rattle.text_lines.specs.Lines.{lines_of}
use Rattle.text_lines.proofs.LinesReadOneWay as lines
use Rattle.texts.specs.Trace.{IsTraceFault}
use Rattle.texts.specs.Trace.Place.{nothing_said, trace_format}
use Rattle.texts.proofs.OneTrace.{trace_is_determined}
use Rattle.texts.proofs.laws.trace_has_one_fault.Goals as goal

one_fault : (ring : ℕ) (input : List ℕ) (fault other : ParseFault) → IsTraceFault ring input fault → fault ≢ OutOfMemory
    → IsTraceFault ring input other → other ≢ OutOfMemory → fault ≡ other
one_fault ring input (Line fault) (Line other) a some b more =
    ap Line (lines.one_fault trace_format trace_is_determined (nothing_said ring) (lines_of input) fault other a b)
one_fault ring input (Line fault) OutOfMemory a some b more = absurd (more refl)
one_fault ring input OutOfMemory other a some b more = absurd (some refl)

pub returns : goal.returns
returns c = one_fault
