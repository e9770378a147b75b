-- An input of `join` has one fault, or its lines are all read.
use Rattle.std.proofs.Common.{◌≡◌, ◌≢◌, ℕ, List, [], refl, ap}
use Rattle.docsis_wire.specs.declared.segment.Segment.{Segment}
use Rattle.text_lines.specs.declared.fault.ParseFault.{ParseFault}
use Rattle.text_lines.specs.declared.fault.ParseFault.TheVariants as parse
use Rattle.text_lines.specs.declared.fault.TextFault.{TextFault}
use Rattle.text_lines.specs.declared.fault.TextFault.TheVariants.{Trace, Cut, OutOfMemory}
use Rattle.text_lines.specs.Lines.{lines_of}
use Rattle.text_lines.specs.Fault.{text_fault_of_parse}
use Rattle.text_lines.specs.Format.{IsRead, IsReadingFault}
use Rattle.text_lines.proofs.LinesReadOneWay as lines
use Rattle.texts.specs.Join.{IsJoinFault}
use Rattle.texts.specs.Join.Line.{join_format}
use Rattle.texts.proofs.OneJoinLine.{OneHeader, join_is_determined}

-- a fault of the lines is one of the input
pub join_fault : (input : List ℕ) (fault : ParseFault) → IsReadingFault join_format [] (lines_of input) fault → IsJoinFault input (text_fault_of_parse fault)
join_fault input (parse.Line fault) h = h
join_fault input parse.OutOfMemory h = h

module _ (one_header : OneHeader) where
  pub one_fault : (input : List ℕ) (fault other : TextFault) → IsJoinFault input fault → fault ≢ OutOfMemory → IsJoinFault input other → other ≢ OutOfMemory → fault ≡ other
  one_fault input (Trace fault) (Trace other) a some b more = ap Trace (lines.one_fault join_format (join_is_determined one_header) [] (lines_of input) fault other a b)
  one_fault input (Trace fault) (Cut other) a some b more = absurd b
  one_fault input (Trace fault) OutOfMemory a some b more = absurd (more refl)
  one_fault input (Cut fault) other a some b more = absurd a
  one_fault input OutOfMemory other a some b more = absurd (some refl)

  pub read_without_fault : (input : List ℕ) (segments : List Segment) (fault : TextFault) → IsRead join_format [] (lines_of input) segments → IsJoinFault input fault
      → fault ≡ OutOfMemory
  read_without_fault input segments (Trace fault) read h = absurd (lines.read_without_fault join_format (join_is_determined one_header) [] (lines_of input) segments fault read h)
  read_without_fault input segments (Cut fault) read h = absurd h
  read_without_fault input segments OutOfMemory read h = refl
