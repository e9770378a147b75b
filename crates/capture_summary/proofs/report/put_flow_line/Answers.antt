use Rattle.capture_summary.proofs.report.put_flow_line.Goals as goal

pub returns : goal.returns
returns g c = rw c.from.ensures at c.put_named_line.ensures
