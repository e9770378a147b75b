use Rattle.std.proofs.Common.{take}
use Rattle.std.specs.Prelude.{flat_map}
use Rattle.text_lines.specs.Putting.{Puts}
use Rattle.texts.specs.Report.{request_line}
use Rattle.texts.proofs.report_text.put_channels.Given as goal

abbrev pub invariant-loop-requests : goal.invariant-loop-requests
invariant-loop-requests g l = Puts g.O.PutText.after l.fn.out (flat_map (λ requests. flat_map request_line requests.items) (take l.requests-index l.channels)) l.out
