-- The faults of a line, of its field and of its segment, and what they are to the whole input.
use Rattle.docsis_wire.specs.declared.pieces.CutFault.{CutFault}
use Rattle.docsis_wire.specs.declared.pieces.CutFault.TheVariants as cut
use Rattle.text_lines.specs.declared.fault.ParseFault.{ParseFault}
use Rattle.text_lines.specs.declared.fault.ParseFault.TheVariants as parse
use Rattle.text_lines.specs.declared.fault.TextFault.{TextFault}
use Rattle.text_lines.specs.declared.fault.TextFault.TheVariants as text

-- what that fault is to a text
abbrev pub text_fault_of_parse : ParseFault → TextFault
text_fault_of_parse (parse.Line fault) = text.Trace fault
text_fault_of_parse parse.OutOfMemory = text.OutOfMemory

-- the fault of an input whose frames and pieces have this one
abbrev pub text_fault_of_cut : CutFault → TextFault
text_fault_of_cut (cut.BadFrame k) = text.Cut (cut.BadFrame k)
text_fault_of_cut (cut.FillInsideFrame k) = text.Cut (cut.FillInsideFrame k)
text_fault_of_cut (cut.PointerTooFar k) = text.Cut (cut.PointerTooFar k)
text_fault_of_cut cut.OutOfMemory = text.OutOfMemory
