use Rattle.capture_command.proofs.whole_command.capture_program.Goals as goal

pub returns : goal.returns
returns g c = (
  c.obey_words-outcome.result,
  c.report_outcome-status.ensures.status,
  record {
    input = c.new-reader.result;
    input' = c.obey_words-outcome.new.reader;
    output = c.new-out.result;
    output' = c.obey_words-outcome.new.out;
    errors = c.new-err.result;
    errors' = c.obey_words-outcome.new.err;
    errors'' = c.report_outcome-status.new.err;
    reads = c.new-reader.ensures.inner;
    writes = c.new-out.ensures.inner;
    tells = c.new-err.ensures.inner;
    fresh = (c.new-reader.ensures.fresh, c.new-out.ensures.fresh, c.new-err.ensures.fresh);
    obeyed = c.obey_words-outcome.ensures.obeys;
    does = c.obey_words-outcome.ensures.does;
    says = c.obey_words-outcome.ensures.says;
    report = c.report_outcome-status.ensures.report;
  },
)
