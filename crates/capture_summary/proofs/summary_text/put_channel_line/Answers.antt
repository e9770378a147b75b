use Rattle.capture_summary.proofs.summary_text.put_channel_line.Goals as goal

pub returns : goal.returns
returns g c = rw (c.from-number.ensures, c.from-id.ensures) at c.put_named_line.ensures
