use Rattle.std.proofs.Common.{◌∙◌}
use Rattle.texts.proofs.SelectedLines.{report_of-all, report_is_its_lines}
use Rattle.texts.proofs.laws.report_of_all_flows_is_the_report.Goals as goal

pub returns-clause-whole : goal.returns-clause-whole
returns-clause-whole c = report_is_its_lines

pub returns-clause-all : goal.returns-clause-all
returns-clause-all c = report_of-all

pub returns-clause-replay : goal.returns-clause-replay
returns-clause-replay c = λ rule input text is.
    let by = is.replayed in
    record { said = by.said; read = by.read; outcome = by.outcome; played = by.played; printed = is.printed ∙ report_of-all by.outcome }
