-- Losses are declared one after another until one changes nothing, fewer than the window is wide.
use Rattle.std.proofs.Common.{◌≡◌, ◌+◌, ◌++◌, [], cond, false, replicate, count_by, ap, subst, sym, ◌∙◌, arith, append_assoc}
use Rattle.std.proofs.lemmas.Bool.{false≢true}
use Rattle.std.proofs.lemmas.Option.{slice_get_within}
use Rattle.std.proofs.lemmas.List.{append-nil}
use Rattle.std.proofs.lemmas.List.Sums.{sum_by-append}
use Rattle.flow_core.specs.declared.flows.Core.{Core}
use Rattle.flow_core.specs.Fates.{no_fates}
use Rattle.flow_core.specs.Events.{gap}
use Rattle.flow_core.specs.Closing.{says_lost}
use Rattle.flow_core.specs.Giving.{ClosesFlow}
use Rattle.flow_core.proofs.Giving.{expected_of_drained}
use Rattle.flow_core.proofs.FlowSteps.{others_never, others_twice, after_loss, said_as, given_as, drained_of}
use Rattle.flow_core.proofs.flows.Core.close.Goals as goal

pub loop-closed-init : goal.loop-closed-init
loop-closed-init g c =
    record {
      others = others_never c.args.self.now c.args.flow;
      drained = c.requires.drained;
      more = [];
      appended = sym (append-nil c.args.frames.now.items);
      gives = λ accepted r events given range before.
          let a = said_as g.C.HeaderCheck.accepts c.args.self.now c.args.flow accepted r events (events ++ []) given (given ++ []) (sym (append-nil events)) (sym (append-nil given)) before in
          (a.0, omega (arith, ap (count_by says_lost) a.2));
    }

pub close_gap-requires-clause-exists : goal.close_gap-requires-clause-exists
close_gap-requires-clause-exists g c =
    let at = c.loop-closed.invariant.drained in
    slice_get_within c.loop-closed.self.flows.items c.args.flow at.flow at.there

pub returns-then-not-close_gap-clause-closed : goal.returns-then-not-close_gap-clause-closed
returns-then-not-close_gap-clause-closed g c =
    let accepts = g.C.HeaderCheck.accepts in
    let k = c.args.flow in
    let n = c.loop-closed._closed in
    let inv = c.loop-closed.invariant in
    let closes = c.close_gap.ensures.flow in
    let no : c.close_gap.result ≡ false = c.if-not-close_gap.true in
    subst (λ (core : Core _). ClosesFlow accepts c.args.self.now k c.args.frames.now.items core c.loop-closed.frames.items) (sym (closes.unchanged (λ yes. false≢true (sym no ∙ yes))))
    (record {
      more = inv.more;
      appended = inv.appended;
      gives = λ accepted r events given range before.
          let now = (inv.gives accepted r events given range before).0 in
          let drained = drained_of accepts c.loop-closed.self k accepted r (events ++ replicate n gap) (given ++ inv.more) inv.drained now in
          let expected = expected_of_drained accepted r now.flow (events ++ replicate n gap) now.answers now.y (given ++ inv.more) now.stands drained in
          let none = closes.closed (λ yes. false≢true (sym no ∙ yes)) now.flow now.there accepted r (events ++ replicate n gap) now.answers now.y (given ++ inv.more) now.stands in
          record { n = n; has_drained = record { has_given = now; drained = drained }; closed = (now.y, expected, none) };
    })

pub drain-requires : goal.drain-requires
drain-requires g c =
    let n = c.loop-closed._closed in
    let w = c.requires.running in
    let inv = c.loop-closed.invariant in
    let now = inv.gives w.accepted w.flow_record w.events w.given w.in_range w.has_given in
    let a = after_loss g.C.HeaderCheck.accepts c.loop-closed.self c.close_gap.new.self c.args.flow w.accepted w.flow_record w.events (w.given ++ inv.more)
    (count_by says_lost w.has_given.answers) n c.close_gap.result c.close_gap.ensures.others c.close_gap.ensures.flow c.if-not-close_gap.false now.0 now.1 in
    record {
      running = record {
        accepted = w.accepted;
        flow_record = w.flow_record;
        events = w.events ++ replicate (n + 1) gap;
        given = w.given ++ inv.more;
        in_range = w.in_range;
        has_given = a.0;
      };
    }

pub returns-in_err-drain-clause-others : goal.returns-in_err-drain-clause-others
returns-in_err-drain-clause-others g c =
    let k = c.args.flow in
    let before = others_twice c.args.self.now c.loop-closed.self c.close_gap.new.self k c.loop-closed.invariant.others c.close_gap.ensures.others in
    others_twice c.args.self.now c.close_gap.new.self c.drain.new.self k before c.drain.ensures.others

pub loop-closed-preserved : goal.loop-closed-preserved
loop-closed-preserved g c =
    let accepts = g.C.HeaderCheck.accepts in
    let k = c.args.flow in
    let n = c.loop-closed._closed in
    let inv = c.loop-closed.invariant in
    let d = c.in_ok-drain.ensures.drained in
    let before = others_twice c.args.self.now c.loop-closed.self c.close_gap.new.self k inv.others c.close_gap.ensures.others in
    record {
      others = others_twice c.args.self.now c.close_gap.new.self c.drain.new.self k before c.drain.ensures.others;
      drained = d.drained;
      more = inv.more ++ d.more;
      appended = d.appended ∙ ap (λ f. f ++ d.more) inv.appended ∙ append_assoc c.args.frames.now.items inv.more d.more;
      gives = λ accepted r events given range before.
          let all = events ++ replicate (n + 1) gap in
          let now = inv.gives accepted r events given range before in
          let a = after_loss accepts c.loop-closed.self c.close_gap.new.self k accepted r events (given ++ inv.more)
          (count_by says_lost before.answers) n c.close_gap.result c.close_gap.ensures.others c.close_gap.ensures.flow c.if-not-close_gap.false now.0 now.1 in
          let next = (d.gives accepted r all (given ++ inv.more) range a.0).has_given in
          let same = c.events_have_one_outcome.ensures.only r.first r.window all next.answers a.0.answers next.stands.fates a.0.stands.fates next.stands.after a.0.stands.after in
          let last = given_as accepts c.drain.new.self k accepted r all ((given ++ inv.more) ++ d.more) (given ++ (inv.more ++ d.more)) (append_assoc given inv.more d.more) next in
          (last.0, ap (count_by says_lost) (last.2 ∙ same.0) ∙ a.1);
    }

pub returns-clause-closed : goal.returns-clause-closed
returns-clause-closed g c =
    let n = c.loop-closed._closed in
    let w = c.requires.running in
    let r = w.flow_record in
    let before = w.has_given in
    let inv = c.loop-closed.invariant.gives w.accepted r w.events w.given w.in_range before in
    let now = inv.0 in
    let split = (c.events_lead_on_in_turn.ensures r.first r.window w.events (replicate n gap) now.answers no_fates now.stands.fates).0 now.stands.after in
    let same = c.events_have_one_outcome.ensures.only r.first r.window w.events split.0 before.answers split.2 before.stands.fates split.3 before.stands.after in
    let few = c.flow_has_one_close.ensures.ends r.first r.window n w.events split.0 split.1 split.2 now.stands.fates w.in_range.window_positive split.3 split.4 in
    let all = ap (count_by says_lost) split.5 ∙ sum_by-append (λ a. cond (says_lost a) 1 0) split.0 split.1 in
    let front = ap (count_by says_lost) same.0 in
    absurd (omega (arith, few, all, front, inv.1, w.in_range.window_in_range))
