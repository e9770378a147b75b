use Rattle.std.proofs.Common.{◌++◌, ◌∙◌, ap}
use Rattle.capture_summary.specs.LinesInMemory.{lines_text}
use Rattle.capture_summary.proofs.PlainRows.{numbers-row}
use Rattle.capture_summary.proofs.requests.RequestLines.put.Goals as goal

pub returns : goal.returns
returns c = λ whole.
    let gained = c.put_fields.ensures whole in
    let row = numbers-row c.args.nanoseconds _ _ _ _ _ _ _ _ _ _ _ c.ranges.nanoseconds.fits (c.as_slice.ensures.value ∙ c.in-Ok.ensures)
    c.digits_in.ensures c.digits_in-2.ensures c.digits_in-3.ensures c.digits_in-4.ensures c.digits_in-5.ensures in
    (gained.0, gained.1 ∙ ap (λ line. lines_text c.args.self.now ++ line) (rw (c.from-channel.ensures, c.from-sid.ensures, c.from-cluster.ensures, c.from-units.ensures) at row))
