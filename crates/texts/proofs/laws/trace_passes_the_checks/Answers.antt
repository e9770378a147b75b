use Rattle.std.proofs.Common.{List, length, sym, subst}
use Rattle.flow_records.specs.declared.record.FlowRecord.{FlowRecord}
use Rattle.flow_records.specs.Setup.{CanBeSetUp}
use Rattle.lane.specs.declared.sids.SidRow.{SidRow}
use Rattle.lane.specs.Rows.{CanBeOpened}
use Rattle.text_lines.specs.Lines.{lines_of}
use Rattle.texts.proofs.TraceChecks.{read_passes}
use Rattle.texts.proofs.laws.trace_passes_the_checks.Goals as goal

pub returns : goal.returns
returns c ring mailbox input trace positive is =
    let passes = read_passes ring (lines_of input) is.said positive is.read in
    let Rows : List SidRow → Type 0 = λ rows. CanBeOpened rows (length is.said.flows) in
    let Flows : List FlowRecord → Type 0 = λ flows. CanBeOpened trace.setup.sids.items (length flows) in
    record {
      flows = subst CanBeSetUp (sym is.given.flows) passes.flows;
      lanes = subst Flows (sym is.given.flows) (subst Rows (sym is.given.sids) passes.sids);
    }
