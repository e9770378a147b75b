-- What is added to the report, and reported, is what the answer gives.
use Rattle.std.proofs.Common.{true, false, sym, ◌∙◌, rules}
use Rattle.lane.proofs.LaneReports.{adds-ok, adds-refusal, reports-ok, reports-refusal}
use Rattle.lane.proofs.report.LaneReport.note.Goals as goal

pub returns-then-is_some-clause-added : goal.returns-then-is_some-clause-added
returns-then-is_some-clause-added c =
    adds-ok c.args.self.now _ c.args.answer.now c.in-Ok.admitted true c.in-Ok.is
    (sym c.if-is_some.true ∙ c.is_some.ensures) (search rules) (search rules)

pub returns-else-is_some-clause-added : goal.returns-else-is_some-clause-added
returns-else-is_some-clause-added c =
    adds-ok c.args.self.now _ c.args.answer.now c.in-Ok.admitted false c.in-Ok.is
    (sym c.if-is_some.false ∙ c.is_some.ensures) (search rules) (search rules)

pub returns-in_ok-push-in-Err-clause-added : goal.returns-in_ok-push-in-Err-clause-added
returns-in_ok-push-in-Err-clause-added c =
    adds-refusal c.args.self.now _ c.args.answer.now c.in-Err.refusal c.in-Err.is (search rules) (search rules)

pub returns-then-is_some-clause-noted : goal.returns-then-is_some-clause-noted
returns-then-is_some-clause-noted c =
    reports-ok c.args.self.now _ c.args.answer.now c.in-Ok.admitted true c.in-Ok.is
    (sym c.if-is_some.true ∙ c.is_some.ensures) (search rules) (search rules)

pub returns-else-is_some-clause-noted : goal.returns-else-is_some-clause-noted
returns-else-is_some-clause-noted c =
    reports-ok c.args.self.now _ c.args.answer.now c.in-Ok.admitted false c.in-Ok.is
    (sym c.if-is_some.false ∙ c.is_some.ensures) (search rules) (search rules)

pub returns-in_ok-push-in-Err-clause-noted : goal.returns-in_ok-push-in-Err-clause-noted
returns-in_ok-push-in-Err-clause-noted c =
    reports-refusal c.args.self.now _ c.args.answer.now c.in-Err.refusal c.in-Err.is (search rules) (search rules)
