use Rattle.std.proofs.Common.{◌≡◌, ◌≢◌, ℕ, List, refl}
use Rattle.text_lines.specs.declared.fault.TextFault.{TextFault}
use Rattle.text_lines.specs.declared.fault.TextFault.TheVariants.{Trace, Cut, OutOfMemory}
use Rattle.text_lines.specs.declared.fault.ParseFault.{ParseFault}
use Rattle.text_lines.specs.declared.fault.ParseFault.TheVariants as parse
use Rattle.texts.specs.Trace.{IsTraceFault}
use Rattle.texts.specs.Replay.{IsReportFault}
use Rattle.texts.proofs.laws.report_has_one_fault.Goals as goal

-- a trace has one fault
abbrev TracesHaveOneFault : Type 0
TracesHaveOneFault =
    (ring : ℕ) (input : List ℕ) (fault other : ParseFault) → IsTraceFault ring input fault → fault ≢ parse.OutOfMemory
    → IsTraceFault ring input other → other ≢ parse.OutOfMemory → fault ≡ other

one_fault : TracesHaveOneFault → (ring : ℕ) (input : List ℕ) (fault other : TextFault) → IsReportFault ring input fault → fault ≢ OutOfMemory
    → IsReportFault ring input other → other ≢ OutOfMemory → fault ≡ other
one_fault one ring input (Trace fault) (Trace other) a some b more =
    let same = one ring input (parse.Line fault) (parse.Line other) a (λ e. absurd cc) b (λ e. absurd cc) in cc
one_fault one ring input (Trace fault) (Cut other) a some b more = absurd b
one_fault one ring input (Trace fault) OutOfMemory a some b more = absurd (more refl)
one_fault one ring input (Cut fault) other a some b more = absurd a
one_fault one ring input OutOfMemory other a some b more = absurd (some refl)

pub returns : goal.returns
returns c = one_fault c.trace_has_one_fault.ensures
