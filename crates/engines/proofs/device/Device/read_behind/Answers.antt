-- The calls that were interrupted gave nothing, and the last gave what the read gave.
use Rattle.std.proofs.Common.{[], take, sym, ap, subst, rules}
use Rattle.engines.specs.Device.{inner_of}
use Rattle.engines.specs.FlushedReads.{MakesReads}
use Rattle.engines.proofs.ShownReads.{makes-one}
use Rattle.engines.proofs.device.Device.read_behind.Goals as goal

pub returns-in-Ok-clause-shown : goal.returns-in-Ok-clause-shown
returns-in-Ok-clause-shown g c =
    let held = g.W.Write.contents (inner_of c.args.writer.now) in
    let gave = take c.in-Ok.count c.read_behind.new.buf in
    subst (λ now. MakesReads g.R.ReadBehind.after held c.args.self.now.inner now gave) (sym (ap inner_of c.count_given.ensures))
    (makes-one g.R.ReadBehind.after held c.args.self.now.inner c.loop.self.inner c.read_behind.new.self gave c.loop.invariant.shown c.in-Ok.ensures.shown)

pub returns-then-ne-clause-shown : goal.returns-then-ne-clause-shown
returns-then-ne-clause-shown g c =
    makes-one g.R.ReadBehind.after (g.W.Write.contents (inner_of c.args.writer.now)) c.args.self.now.inner c.loop.self.inner c.read_behind.new.self [] c.loop.invariant.shown
    c.in-Err.ensures.shown

pub loop-preserved : goal.loop-preserved
loop-preserved g c =
    let shown =
    makes-one g.R.ReadBehind.after (g.W.Write.contents (inner_of c.args.writer.now)) c.args.self.now.inner c.loop.self.inner c.read_behind.new.self [] c.loop.invariant.shown
    c.in-Err.ensures.shown in
    search (rules, shown)
