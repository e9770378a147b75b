use Rattle.capture_command.specs.Progress.{progress_line}
use Rattle.capture_summary.proofs.BufferFinished.{buffer-finished}
use Rattle.capture_command.proofs.progress_lines.line_of.Goals as goal

pub returns : goal.returns
returns c =
    buffer-finished c.finish.result c.new-text.result c.put_progress.new.out (progress_line c.args.progress) c.new-text.ensures.empty c.put_progress.ensures c.finish.ensures.whole
    c.finish.ensures.text
