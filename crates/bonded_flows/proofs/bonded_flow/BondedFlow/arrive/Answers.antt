-- What is next is joined, and then the segment arrives.
use Rattle.std.proofs.Common.{[], ◌∷◌, ◌++◌, refl, sym, subst, ◌∙◌}
use Rattle.flow_core.specs.Events.{arrives}
use Rattle.bonded_flows.specs.declared.told.SegmentVerdict.{SegmentVerdict}
use Rattle.bonded_flows.specs.ByRule.{EndInVerdict}
use Rattle.bonded_flows.specs.Stands.{IsUpToDate}
use Rattle.bonded_flows.proofs.Joined.{where-ok}
use Rattle.bonded_flows.proofs.ArrivedSegments.{arrives-later, some-arrived, arrived-told, arrives-now}
use Rattle.bonded_flows.proofs.bonded_flow.BondedFlow.arrive.Goals as goal

pub returns-then-is_err-clause-takes : goal.returns-then-is_err-clause-takes
returns-then-is_err-clause-takes g c =
    arrives-later g.O.Consumer.after (g.C.HeaderCheck.accepts c.args.check.now) c.args.self.now c.drain.new.self c.args.out.now c.drain.new.out c.args.segment
    c.drain.ensures.gives _ refl

pub drain-requires-2 : goal.drain-requires-2
drain-requires-2 g c =
    let up = where-ok c.drain.result (IsUpToDate c.drain.new.self) c.if-is_err.ensures.negation c.drain.ensures.up_to_date in
    some-arrived g.O.Consumer.after (g.C.HeaderCheck.accepts c.args.check.now) c.args.self.now c.drain.new.self c.args.out.now c.drain.new.out c.args.segment
    c.drain.ensures.gives up c.arrive.result c.arrive.new.self c.arrive.ensures c.requires.has_taken

pub returns-in_err-drain-clause-takes : goal.returns-in_err-drain-clause-takes
returns-in_err-drain-clause-takes g c =
    let up = where-ok c.drain.result (IsUpToDate c.drain.new.self) c.if-is_err.ensures.negation c.drain.ensures.up_to_date in
    arrives-now g.O.Consumer.after (g.C.HeaderCheck.accepts c.args.check.now) c.args.self.now c.drain.new.self c.args.out.now c.drain.new.out c.args.segment
    c.drain.ensures.gives up c.arrive.result c.arrive.new.self c.arrive.ensures c.drain-2.new.self c.drain-2.new.out c.drain.ensures.index c.drain-2.ensures.gives
    (c.drain-2.ensures.pending ∙ c.drain.ensures.pending ∙ c.requires.nothing_left)

pub returns-clause-takes : goal.returns-clause-takes
returns-clause-takes g c =
    let up = where-ok c.drain.result (IsUpToDate c.drain.new.self) c.if-is_err.ensures.negation c.drain.ensures.up_to_date in
    arrives-now g.O.Consumer.after (g.C.HeaderCheck.accepts c.args.check.now) c.args.self.now c.drain.new.self c.args.out.now c.drain.new.out c.args.segment
    c.drain.ensures.gives up c.arrive.result c.arrive.new.self c.arrive.ensures c.drain-2.new.self c.drain-2.new.out c.drain.ensures.index c.drain-2.ensures.gives
    (c.drain-2.ensures.pending ∙ c.drain.ensures.pending ∙ c.requires.nothing_left)

pub returns-clause-told : goal.returns-clause-told
returns-clause-told g c = λ setup taken lasts given has.
    let up = where-ok c.drain.result (IsUpToDate c.drain.new.self) c.if-is_err.ensures.negation c.drain.ensures.up_to_date in
    subst (λ (verdict : SegmentVerdict). EndInVerdict setup (taken ++ arrives c.args.segment ∷ []) verdict) (sym c.of-verdict.ensures)
    (arrived-told g.O.Consumer.after (g.C.HeaderCheck.accepts c.args.check.now) c.args.self.now c.drain.new.self c.args.out.now c.drain.new.out c.args.segment
    c.drain.ensures.gives up c.arrive.result c.arrive.new.self c.arrive.ensures setup taken lasts given has)
