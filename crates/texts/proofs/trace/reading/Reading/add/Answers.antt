-- What is set up is read.
use Rattle.std.proofs.Common.{refl}
use Rattle.texts.proofs.SetupKept.{setup_read}
use Rattle.texts.proofs.trace.reading.Reading.add.Goals as goal

pub returns-in-Flow : goal.returns-in-Flow
returns-in-Flow c = setup_read c.args.line _ c.args.self.now _ c.add_flow.result c.in-Flow.is tt refl refl c.add_flow.ensures.added

pub returns-in-Sid : goal.returns-in-Sid
returns-in-Sid c = setup_read c.args.line _ c.args.self.now _ c.add_sid.result c.in-Sid.is tt refl refl c.add_sid.ensures.added
