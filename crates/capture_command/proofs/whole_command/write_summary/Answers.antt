use Rattle.capture_command.specs.Progress.{summary_said}
use Rattle.capture_command.proofs.whole_command.write_summary.Goals as goal

pub returns-in_err-write_counted-clause-said : goal.returns-in_err-write_counted-clause-said
returns-in_err-write_counted-clause-said g c = summary_said c.args.tally.now.summary c.write_counted.ensures.0 c.write_counted.result c.write_counted.ensures.1

pub returns-then-failed-clause-said : goal.returns-then-failed-clause-said
returns-then-failed-clause-said g c = summary_said c.args.tally.now.summary c.write_counted.ensures.0 c.write_counted.result c.write_counted.ensures.1

pub returns-clause-said : goal.returns-clause-said
returns-clause-said g c = summary_said c.args.tally.now.summary c.write_counted.ensures.0 c.write_counted.result c.write_counted.ensures.1
