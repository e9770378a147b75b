use Rattle.capture_summary.proofs.summary_text.put_segments_line.Goals as goal

pub returns : goal.returns
returns g c = rw c.from.ensures at c.put_named_line.ensures
