use Rattle.std.specs.Prelude.{map}
use Rattle.commands.proofs.ExitStatuses.{SaysOfWords-run}
use Rattle.commands.proofs.whole_program.program.Goals as goal

pub returns-clause-outcome : goal.returns-clause-outcome
returns-clause-outcome g c =
    let ran = c.run_words-status.ensures.runs in (
      ran.outcome,
      ran.ends,
      record {
        input = c.new-reader.result;
        input' = c.run_words-status.new.reader;
        output = c.new-out.result;
        output' = c.run_words-status.new.out;
        errors = c.new-err.result;
        errors' = c.run_words-status.new.err;
        reads = c.new-reader.ensures.inner;
        writes = c.new-out.ensures.inner;
        reports = c.new-err.ensures.inner;
        fresh = (c.new-reader.ensures.fresh, c.new-out.ensures.fresh, c.new-err.ensures.fresh);
        obeyed = ran.obeyed;
        report = ran.report;
      },
    )

pub returns-clause-status : goal.returns-clause-status
returns-clause-status g c = (SaysOfWords-run c.new-reader.ensures.inner c.run_words-status.ensures.runs).status

pub returns-clause-join : goal.returns-clause-join
returns-clause-join g c = (SaysOfWords-run c.new-reader.ensures.inner c.run_words-status.ensures.runs).join

pub returns-clause-join_is_known : goal.returns-clause-join_is_known
returns-clause-join_is_known g c = (SaysOfWords-run c.new-reader.ensures.inner c.run_words-status.ensures.runs).join_is_known

pub returns-clause-cut : goal.returns-clause-cut
returns-clause-cut g c = (SaysOfWords-run c.new-reader.ensures.inner c.run_words-status.ensures.runs).cut

pub returns-clause-usage : goal.returns-clause-usage
returns-clause-usage g c = (SaysOfWords-run c.new-reader.ensures.inner c.run_words-status.ensures.runs).usage

pub returns-clause-replay : goal.returns-clause-replay
returns-clause-replay g c = (SaysOfWords-run c.new-reader.ensures.inner c.run_words-status.ensures.runs).replay

pub returns-clause-replay_is_known : goal.returns-clause-replay_is_known
returns-clause-replay_is_known g c = (SaysOfWords-run c.new-reader.ensures.inner c.run_words-status.ensures.runs).replay_is_known

pub returns-clause-run : goal.returns-clause-run
returns-clause-run g c = (SaysOfWords-run c.new-reader.ensures.inner c.run_words-status.ensures.runs).run

pub returns-clause-replay_by : goal.returns-clause-replay_by
returns-clause-replay_by g c = (SaysOfWords-run c.new-reader.ensures.inner c.run_words-status.ensures.runs).replay_by

pub returns-clause-replay_by_is_known : goal.returns-clause-replay_by_is_known
returns-clause-replay_by_is_known g c = (SaysOfWords-run c.new-reader.ensures.inner c.run_words-status.ensures.runs).replay_by_is_known

pub returns-clause-run_by : goal.returns-clause-run_by
returns-clause-run_by g c = (SaysOfWords-run c.new-reader.ensures.inner c.run_words-status.ensures.runs).run_by

pub returns-clause-run_by_is_known : goal.returns-clause-run_by_is_known
returns-clause-run_by_is_known g c = (SaysOfWords-run c.new-reader.ensures.inner c.run_words-status.ensures.runs).run_by_is_known

pub returns-clause-follow : goal.returns-clause-follow
returns-clause-follow g c = (SaysOfWords-run c.new-reader.ensures.inner c.run_words-status.ensures.runs).follow

pub returns-clause-follow_is_known : goal.returns-clause-follow_is_known
returns-clause-follow_is_known g c = (SaysOfWords-run c.new-reader.ensures.inner c.run_words-status.ensures.runs).follow_is_known

pub returns-clause-map : goal.returns-clause-map
returns-clause-map g c = (SaysOfWords-run c.new-reader.ensures.inner c.run_words-status.ensures.runs).map

pub returns-clause-map_is_known : goal.returns-clause-map_is_known
returns-clause-map_is_known g c = (SaysOfWords-run c.new-reader.ensures.inner c.run_words-status.ensures.runs).map_is_known

pub returns-clause-replay_flows : goal.returns-clause-replay_flows
returns-clause-replay_flows g c = (SaysOfWords-run c.new-reader.ensures.inner c.run_words-status.ensures.runs).replay_flows
