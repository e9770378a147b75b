-- What is set up before anything came in is handed in.
use Rattle.std.proofs.Common.{refl, sym, subst}
use Rattle.texts.specs.Inside.SetupLines.{SetsUp}
use Rattle.texts.proofs.HandedLines.{setup_handed}
use Rattle.texts.proofs.trace.input.TraceInput.add.Goals as goal

pub returns-in-Flow : goal.returns-in-Flow
returns-in-Flow g c = λ given.
    setup_handed g.P.TakeEntries.starts g.P.TakeEntries.has_taken given c.args.line _ c.args.self.now.width _ _ c.args.self.now.setup _ _ _ c.add_flow.result
    c.in-Flow.is tt (c.requires.early (subst SetsUp (sym c.in-Flow.is) tt)) refl c.add_flow.ensures.mailbox refl c.add_flow.ensures.added

pub returns-in-Sid : goal.returns-in-Sid
returns-in-Sid g c = λ given.
    setup_handed g.P.TakeEntries.starts g.P.TakeEntries.has_taken given c.args.line _ c.args.self.now.width _ _ c.args.self.now.setup _ _ _ c.add_sid.result
    c.in-Sid.is tt (c.requires.early (subst SetsUp (sym c.in-Sid.is) tt)) refl c.add_sid.ensures.mailbox refl c.add_sid.ensures.added
