-- The flow goes on until nothing is next, which comes within the width of its window.
use Rattle.std.proofs.Common.{◌++◌, [], ap, subst, sym, ◌∙◌, arith, append_assoc}
use Rattle.std.proofs.lemmas.List.{append-nil}
use Rattle.std.proofs.lemmas.Option.{slice_get_within}
use Rattle.flow_core.specs.declared.event.Step.{Step}
use Rattle.flow_core.specs.Fates.{Fates, IsKept}
use Rattle.flow_core.specs.Flows.{AdvancesAt}
use Rattle.flow_core.proofs.FlowSteps.{others_never, others_twice, after_advance, after_nothing, given_as, drained_at}
use Rattle.flow_core.proofs.flows.Core.drain.Goals as goal

pub loop-joined-init : goal.loop-joined-init
loop-joined-init g c =
    record {
      others = others_never c.args.self.now c.args.flow;
      more = [];
      appended = sym (append-nil c.args.frames.now.items);
      gives = λ accepted r events given before.
          let a = given_as g.C.HeaderCheck.accepts c.args.self.now c.args.flow accepted r events given (given ++ []) (sym (append-nil given)) before in
          (a.0, omega (arith, a.1), omega arith);
    }

pub advance-requires : goal.advance-requires
advance-requires g c =
    let was = c.requires.running.has_given in
    let within = slice_get_within c.args.self.now.flows.items c.args.flow was.flow was.there in
    omega (arith, within, c.loop-joined.invariant.others.count)

pub returns-in-Nothing-clause-drained : goal.returns-in-Nothing-clause-drained
returns-in-Nothing-clause-drained g c =
    let accepts = g.C.HeaderCheck.accepts in
    let core = c.loop-joined.self in
    let k = c.args.flow in
    let inv = c.loop-joined.invariant in
    let step = subst (λ (s : Step). AdvancesAt accepts core k s c.advance.new.self) c.in-Nothing.is c.in_ok-given.ensures.step in
    let w = c.requires.running in
    let ran = after_nothing accepts core c.advance.new.self k w.accepted w.flow_record w.events (w.given ++ inv.more) c.advance.ensures.others
    (inv.gives w.accepted w.flow_record w.events w.given w.has_given).0 step in
    record {
      more = inv.more;
      appended = inv.appended;
      drained = drained_at accepts c.advance.new.self k w.accepted w.flow_record w.events (w.given ++ inv.more) ran;
      gives = λ accepted r events given _ before.
          after_nothing accepts core c.advance.new.self k accepted r events (given ++ inv.more) c.advance.ensures.others
          (inv.gives accepted r events given before).0 step;
    }

pub loop-joined-preserved : goal.loop-joined-preserved
loop-joined-preserved g c =
    let accepts = g.C.HeaderCheck.accepts in
    let core = c.loop-joined.self in
    let k = c.args.flow in
    let inv = c.loop-joined.invariant in
    let frames = c.in-Frames.given in
    let step = subst (λ (s : Step). AdvancesAt accepts core k s c.advance.new.self) c.in-Frames.is c.in_ok-given.ensures.step in
    record {
      others = others_twice c.args.self.now core c.advance.new.self k inv.others c.advance.ensures.others;
      more = inv.more ++ frames.items;
      appended = c.in_ok-append-in-Frames.ensures.items ∙ ap (λ f. f ++ frames.items) inv.appended ∙ append_assoc c.args.frames.now.items inv.more frames.items;
      gives = λ accepted r events given before.
          let now = inv.gives accepted r events given before in
          let next = after_advance accepts core c.advance.new.self k accepted r events (given ++ inv.more) c.advance.ensures.others now.0 frames step in
          let last = given_as accepts c.advance.new.self k accepted r events ((given ++ inv.more) ++ frames.items) (given ++ (inv.more ++ frames.items)) (append_assoc given inv.more frames.items) next.0 in
          let same = c.events_have_one_outcome.ensures.only r.first r.window events before.answers now.0.answers before.stands.fates now.0.stands.fates before.stands.after now.0.stands.after in
          let near = c.draining_ends.ensures.kept accepted r before.flow events before.answers now.0.y before.y given before.stands.fates before.stands before.stands.after
          (subst (λ (f : Fates). IsKept f now.0.y) (sym same.1) next.2) in
          (last.0, omega (arith, now.1, next.1, last.1), omega (arith, now.1, near));
    }

pub returns-clause-drained : goal.returns-clause-drained
returns-clause-drained g c =
    let w = c.requires.running in
    let inv = c.loop-joined.invariant.gives w.accepted w.flow_record w.events w.given w.has_given in
    absurd (omega (arith, inv.2, w.in_range.window_in_range))
