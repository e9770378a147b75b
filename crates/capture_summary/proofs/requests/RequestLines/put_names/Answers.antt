use Rattle.std.proofs.Common.{◌++◌, ◌∙◌, ap}
use Rattle.capture_summary.specs.LinesInMemory.{lines_text}
use Rattle.capture_summary.proofs.PlainRows.{names-row}
use Rattle.capture_summary.proofs.requests.RequestLines.put_names.Goals as goal

pub returns : goal.returns
returns c = λ whole.
    let gained = c.put_fields.ensures whole in
    (gained.0, gained.1 ∙ ap (λ line. lines_text c.args.self.now ++ line) names-row)
