use Rattle.std.proofs.Common.{rules}
use Rattle.commands.proofs.whole_program.report_outcome.Goals as goal
use Rattle.commands.proofs.whole_program.report_outcome.Goals.{in-Err, in_default}

pub returns-clause-report : goal.returns-clause-report
returns-clause-report g c =
    elim c.match-outcome.branch [
      | in-Err w ↦
          rw (w.in-Err.is, w.err-is) (
            w.write_fault.result,
            record {
              written = w.write_fault.ensures.written;
              flushed = search rules;
              sound = w.write_fault.ensures.sound;
              front = w.write_fault.ensures.front;
              failed = w.write_fault.ensures.failed;
            },
          )
      | in_default w ↦ rw w.in_default.is w.err-is
    ]
