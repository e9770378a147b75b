use Rattle.std.proofs.Common.{take}
use Rattle.std.specs.Prelude.{flat_map}
use Rattle.text_lines.specs.Putting.{Puts}
use Rattle.texts.specs.Report.{request_line}
use Rattle.texts.proofs.report_text.put_requests.Given as goal

abbrev pub invariant-loop-request : goal.invariant-loop-request
invariant-loop-request g l = Puts g.O.PutText.after l.fn.out (flat_map request_line (take l.request-index l.requests)) l.out
