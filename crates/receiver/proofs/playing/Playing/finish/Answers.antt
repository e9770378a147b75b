-- The receiver is closed, and what it gave is the outcome.
use Rattle.std.proofs.Common.{List, length, ap, subst, ◌∙◌, arith}
use Rattle.flow_core.specs.declared.counts.FlowCounts.{FlowCounts}
use Rattle.receiver.specs.declared.tally.LaneTally.{LaneTally}
use Rattle.receiver.specs.Playing.{HaveGiven, IsReportWith}
use Rattle.receiver.proofs.PlayedOut.{played-out, all-given}
use Rattle.receiver.proofs.playing.Playing.finish.Goals as goal

pub flow_outcomes-requires-clause-frames : goal.flow_outcomes-requires-clause-frames
flow_outcomes-requires-clause-frames g c =
    (played-out g.C.HeaderCheck.accepts c.requires.0 c.requires.1 c.args.setup.now c.args.self c.requires.2 c.in-Ok.closed c.close.new.out c.requires.3 c.in-Ok.ensures.closes c.if-not-collected.false).are.flow_count_is

pub flow_outcomes-requires-clause-counts : goal.flow_outcomes-requires-clause-counts
flow_outcomes-requires-clause-counts g c =
    ap length c.deref.ensures.value
    ∙ (played-out g.C.HeaderCheck.accepts c.requires.0 c.requires.1 c.args.setup.now c.args.self c.requires.2 c.in-Ok.closed c.close.new.out c.requires.3 c.in-Ok.ensures.closes c.if-not-collected.false).received.flow_count

pub four_lists-requires : goal.four_lists-requires
four_lists-requires g c = (
  omega arith,
  (played-out g.C.HeaderCheck.accepts c.requires.0 c.requires.1 c.args.setup.now c.args.self c.requires.2 c.in-Ok.closed c.close.new.out c.requires.3 c.in-Ok.ensures.closes c.if-not-collected.false).are.channel_count_is,
)

pub reports-requires-clause-refused : goal.reports-requires-clause-refused
reports-requires-clause-refused g c = c.requires.3.many

pub reports-requires-clause-tallies : goal.reports-requires-clause-tallies
reports-requires-clause-tallies g c =
    ap length c.deref-2.ensures.value
    ∙ (played-out g.C.HeaderCheck.accepts c.requires.0 c.requires.1 c.args.setup.now c.args.self c.requires.2 c.in-Ok.closed c.close.new.out c.requires.3 c.in-Ok.ensures.closes c.if-not-collected.false).received.lane_count

pub returns-clause-gives : goal.returns-clause-gives
returns-clause-gives g c = λ rule check handed plays sent.
    let out = played-out g.C.HeaderCheck.accepts rule check c.args.setup.now c.args.self handed c.in-Ok.closed c.close.new.out plays c.in-Ok.ensures.closes c.if-not-collected.false in
    all-given rule check c.args.setup.now handed out.given c.in-Ok.closed c.close.new.out out.received out.are sent c.args.self.refused.items _ plays.refused
    c.in_ok-flow_outcomes.ensures.count
    (subst (λ (counts : List FlowCounts). HaveGiven c.args.setup.now.flows.items c.close.new.out.frames.items counts c.in_ok-flow_outcomes.field-0.items) c.deref.ensures.value c.in_ok-flow_outcomes.ensures.each)
    c.four_lists.ensures c.reports.ensures.count
    (λ channel report at. subst (λ (tallies : List LaneTally). IsReportWith c.args.self.refused.items tallies channel report) c.deref-2.ensures.value (c.reports.ensures.each channel report at))
