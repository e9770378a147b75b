-- What is next is joined, then the window slides, and then the segment arrives.
use Rattle.std.proofs.Common.{◌++◌, refl, ◌∙◌}
use Rattle.bonded_flows.proofs.ArrivedSegments.{slides-later, slides-now, slid-taken, some-given, some-slid}
use Rattle.bonded_flows.proofs.bonded_flow.BondedFlow.slide.Goals as goal

pub returns-then-is_err-clause-takes : goal.returns-then-is_err-clause-takes
returns-then-is_err-clause-takes g c =
    slides-later g.O.Consumer.after (g.C.HeaderCheck.accepts c.args.check.now) c.args.self.now c.drain.new.self c.args.out.now c.drain.new.out c.args.segment
    c.drain.ensures.gives _ refl

pub skip_slid-skipped_to-requires-clause-has_taken : goal.skip_slid-skipped_to-requires-clause-has_taken
skip_slid-skipped_to-requires-clause-has_taken g c =
    let check = g.C.HeaderCheck.accepts c.args.check.now in
    (check, some-given g.O.Consumer.after check c.args.self.now c.drain.new.self c.args.out.now c.drain.new.out c.drain.ensures.gives c.requires.has_taken)

pub arrive-requires-clause-has_taken : goal.arrive-requires-clause-has_taken
arrive-requires-clause-has_taken g c =
    let check = g.C.HeaderCheck.accepts c.args.check.now in
    some-slid check c.drain.new.self c.skip_slid-skipped_to.new.self c.args.segment.head.sequence c.skip_slid-skipped_to.result c.skip_slid-skipped_to.ensures.skips
    (some-given g.O.Consumer.after check c.args.self.now c.drain.new.self c.args.out.now c.drain.new.out c.drain.ensures.gives c.requires.has_taken)

pub returns-in_err-verdict-clause-takes : goal.returns-in_err-verdict-clause-takes
returns-in_err-verdict-clause-takes g c =
    slides-now g.O.Consumer.after (g.C.HeaderCheck.accepts c.args.check.now) c.args.self.now c.drain.new.self c.args.out.now c.drain.new.out c.args.segment
    c.drain.ensures.gives c.skip_slid-skipped_to.result c.skip_slid-skipped_to.new.self c.arrive.new.self c.arrive.new.out c.skip_slid-skipped_to.ensures.skips
    (c.skip_slid-skipped_to.ensures.index ∙ c.drain.ensures.index) c.arrive.ensures.takes

pub returns-clause-takes : goal.returns-clause-takes
returns-clause-takes g c =
    slides-now g.O.Consumer.after (g.C.HeaderCheck.accepts c.args.check.now) c.args.self.now c.drain.new.self c.args.out.now c.drain.new.out c.args.segment
    c.drain.ensures.gives c.skip_slid-skipped_to.result c.skip_slid-skipped_to.new.self c.arrive.new.self c.arrive.new.out c.skip_slid-skipped_to.ensures.skips
    (c.skip_slid-skipped_to.ensures.index ∙ c.drain.ensures.index) c.arrive.ensures.takes

pub returns-clause-told : goal.returns-clause-told
returns-clause-told g c = λ setup taken sliding lasts given has slides.
    let s = slid-taken g.O.Consumer.after (g.C.HeaderCheck.accepts c.args.check.now) c.args.self.now c.drain.new.self c.args.out.now c.drain.new.out c.args.segment
    c.drain.ensures.gives c.skip_slid-skipped_to.result c.skip_slid-skipped_to.new.self c.arrive.new.self c.arrive.new.out c.skip_slid-skipped_to.ensures.skips
    setup taken sliding lasts given has slides in
    (s.1, c.in_ok-verdict.ensures.told setup (taken ++ sliding) lasts (given ++ c.drain.ensures.gives.more) s.0)
