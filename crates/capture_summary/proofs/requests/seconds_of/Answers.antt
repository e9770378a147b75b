use Rattle.text_lines.specs.Putting.{seconds_text}
use Rattle.capture_summary.proofs.BufferFinished.{buffer-finished}
use Rattle.capture_summary.proofs.requests.seconds_of.Goals as goal

pub returns : goal.returns
returns c =
    buffer-finished c.finish.result c.new-text.result c.put_seconds.new.out (seconds_text c.args.nanoseconds) c.new-text.ensures.empty c.put_seconds.ensures
    c.finish.ensures.whole c.finish.ensures.text
