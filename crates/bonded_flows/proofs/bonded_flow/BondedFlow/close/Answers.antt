-- Losses are declared one after another until one changes nothing, fewer than the window is wide.
use Rattle.std.proofs.Common.{◌+◌, ◌++◌, [], IsTrue, sym, subst, ◌∙◌, arith}
use Rattle.bonded_flows.specs.declared.bonded_flow.BondedFlow.{BondedFlow}
use Rattle.bonded_flows.specs.Taking.{Takes}
use Rattle.bonded_flows.proofs.ArrivedSegments.{given-twice}
use Rattle.bonded_flows.proofs.GoneOn.{still-under_way}
use Rattle.bonded_flows.proofs.GapsTaken.{gaps-none, some-lost, gaps-more, gaps-fewer, gaps-take, gaps-close}
use Rattle.bonded_flows.proofs.bonded_flow.BondedFlow.close.Goals as goal

pub loop-closed-init : goal.loop-closed-init
loop-closed-init g c =
    let gives = c.drain.ensures.gives in
    record {
      up_to_date = c.in_ok-drain.ensures.up_to_date;
      pending = c.drain.ensures.pending;
      index = c.drain.ensures.index;
      more = gives.more;
      was_given = gives.was_given;
      gaps = gaps-none g.O.Consumer.after (g.C.HeaderCheck.accepts c.args.check.now) c.args.self.now c.drain.new.self c.args.out.now c.drain.new.out gives;
    }

pub drain-requires-in-loop-closed : goal.drain-requires-in-loop-closed
drain-requires-in-loop-closed g c =
    let inv = c.loop-closed.invariant in
    some-lost g.O.Consumer.after (g.C.HeaderCheck.accepts c.args.check.now) c.args.self.now c.loop-closed.self c.loop-closed._closed inv.more inv.gaps
    c.close_gap.new.self c.close_gap.result c.if-not-close_gap.false c.close_gap.ensures.takes c.requires.under_way

pub loop-closed-preserved : goal.loop-closed-preserved
loop-closed-preserved g c =
    let check = g.C.HeaderCheck.accepts c.args.check.now in
    let inv = c.loop-closed.invariant in
    let gives = c.drain-in-loop-closed.ensures.gives in
    record {
      up_to_date = c.in_ok-drain-2.ensures.up_to_date;
      pending = c.drain-in-loop-closed.ensures.pending ∙ c.close_gap.ensures.pending ∙ inv.pending;
      index = c.drain-in-loop-closed.ensures.index ∙ c.close_gap.ensures.index ∙ inv.index;
      more = inv.more ++ gives.more;
      was_given = given-twice g.O.Consumer.after c.args.self.now.index c.close_gap.new.self.index c.args.out.now c.loop-closed.out c.drain-in-loop-closed.new.out
          inv.more gives.more (c.close_gap.ensures.index ∙ inv.index) inv.was_given gives.was_given;
      gaps = gaps-more g.O.Consumer.after check c.args.self.now c.loop-closed.self c.loop-closed._closed inv.more inv.gaps
          c.close_gap.new.self c.close_gap.result c.if-not-close_gap.false c.close_gap.ensures.takes c.drain-in-loop-closed.new.self c.loop-closed.out c.drain-in-loop-closed.new.out gives;
    }

pub returns-in_err-drain-clause-takes : goal.returns-in_err-drain-clause-takes
returns-in_err-drain-clause-takes g c =
    let check = g.C.HeaderCheck.accepts c.args.check.now in
    let gives = c.drain.ensures.gives in
    gaps-take g.O.Consumer.after check c.args.self.now c.drain.new.self 0 gives.more
    (gaps-none g.O.Consumer.after check c.args.self.now c.drain.new.self c.args.out.now c.drain.new.out gives) c.args.out.now c.drain.new.out gives.was_given
    c.requires.closing (c.drain.ensures.pending ∙ c.requires.closing)

pub returns-in_err-drain-2-clause-takes : goal.returns-in_err-drain-2-clause-takes
returns-in_err-drain-2-clause-takes g c =
    let check = g.C.HeaderCheck.accepts c.args.check.now in
    let inv = c.loop-closed.invariant in
    let gives = c.drain-in-loop-closed.ensures.gives in
    gaps-take g.O.Consumer.after check c.args.self.now c.drain-in-loop-closed.new.self (c.loop-closed._closed + 1) (inv.more ++ gives.more)
    (gaps-more g.O.Consumer.after check c.args.self.now c.loop-closed.self c.loop-closed._closed inv.more inv.gaps
    c.close_gap.new.self c.close_gap.result c.if-not-close_gap.false c.close_gap.ensures.takes c.drain-in-loop-closed.new.self c.loop-closed.out c.drain-in-loop-closed.new.out gives)
    c.args.out.now c.drain-in-loop-closed.new.out
    (given-twice g.O.Consumer.after c.args.self.now.index c.close_gap.new.self.index c.args.out.now c.loop-closed.out c.drain-in-loop-closed.new.out
    inv.more gives.more (c.close_gap.ensures.index ∙ inv.index) inv.was_given gives.was_given)
    c.requires.closing (c.drain-in-loop-closed.ensures.pending ∙ c.close_gap.ensures.pending ∙ inv.pending ∙ c.requires.closing)

pub returns-then-not-close_gap-clause-closes : goal.returns-then-not-close_gap-clause-closes
returns-then-not-close_gap-clause-closes g c =
    let check = g.C.HeaderCheck.accepts c.args.check.now in
    let inv = c.loop-closed.invariant in
    gaps-close g.O.Consumer.after check c.args.self.now c.loop-closed.self c.loop-closed._closed inv.more inv.gaps c.args.out.now c.loop-closed.out inv.was_given c.requires.closing
    c.close_gap.new.self c.close_gap.result c.counts.result c.if-not-close_gap.true c.close_gap.ensures.takes inv.up_to_date c.counts.ensures

pub returns-then-not-close_gap-clause-takes : goal.returns-then-not-close_gap-clause-takes
returns-then-not-close_gap-clause-takes g c =
    let check = g.C.HeaderCheck.accepts c.args.check.now in
    let inv = c.loop-closed.invariant in
    let not_lost : ¬ (IsTrue c.close_gap.result) = λ yes. (let wrong = sym c.if-not-close_gap.true ∙ yes in absurd cc) in
    subst (λ (one : BondedFlow). Takes g.O.Consumer.after check c.args.self.now c.args.out.now [] one c.loop-closed.out) (sym (c.close_gap.ensures.takes.unchanged not_lost))
    (gaps-take g.O.Consumer.after check c.args.self.now c.loop-closed.self c.loop-closed._closed inv.more inv.gaps c.args.out.now c.loop-closed.out inv.was_given c.requires.closing
    (inv.pending ∙ c.requires.closing))

pub returns-clause-takes : goal.returns-clause-takes
returns-clause-takes g c =
    let inv = c.loop-closed.invariant in
    gaps-take g.O.Consumer.after (g.C.HeaderCheck.accepts c.args.check.now) c.args.self.now c.loop-closed.self c.loop-closed._closed inv.more inv.gaps
    c.args.out.now c.loop-closed.out inv.was_given c.requires.closing (inv.pending ∙ c.requires.closing)

pub returns-clause-closes : goal.returns-clause-closes
returns-clause-closes g c =
    let way = c.requires.under_way in
    let t = way.has_come.taking in
    let inv = c.loop-closed.invariant in
    let few = gaps-fewer g.O.Consumer.after (g.C.HeaderCheck.accepts c.args.check.now) c.args.self.now c.loop-closed.self c.loop-closed._closed inv.more inv.gaps
    way.setup t.taken way.has_come.lasts way.given t.has_taken in
    absurd (omega (arith, few, t.has_taken.made.in_range.window_in_range))

pub returns-in_err-drain-clause-under_way : goal.returns-in_err-drain-clause-under_way
returns-in_err-drain-clause-under_way g c =
    still-under_way g.O.Consumer.after (g.C.HeaderCheck.accepts c.args.check.now) c.args.self.now c.drain.new.self c.args.out.now c.drain.new.out [] (returns-in_err-drain-clause-takes g c) c.requires.under_way

pub returns-in_err-drain-2-clause-under_way : goal.returns-in_err-drain-2-clause-under_way
returns-in_err-drain-2-clause-under_way g c =
    still-under_way g.O.Consumer.after (g.C.HeaderCheck.accepts c.args.check.now) c.args.self.now c.drain-in-loop-closed.new.self c.args.out.now c.drain-in-loop-closed.new.out [] (returns-in_err-drain-2-clause-takes g c) c.requires.under_way

pub returns-then-not-close_gap-clause-under_way : goal.returns-then-not-close_gap-clause-under_way
returns-then-not-close_gap-clause-under_way g c =
    still-under_way g.O.Consumer.after (g.C.HeaderCheck.accepts c.args.check.now) c.args.self.now c.close_gap.new.self c.args.out.now c.loop-closed.out []
    (returns-then-not-close_gap-clause-takes g c) c.requires.under_way

pub returns-clause-under_way : goal.returns-clause-under_way
returns-clause-under_way g c =
    still-under_way g.O.Consumer.after (g.C.HeaderCheck.accepts c.args.check.now) c.args.self.now c.loop-closed.self c.args.out.now c.loop-closed.out []
    (returns-clause-takes g c) c.requires.under_way
