-- The next segment is fed and taken, or left as it is.
use Rattle.std.proofs.Common.{◌≡◌, sym, ap, subst, ◌∙◌, is_some, length, List, ℕ}
use Rattle.std.proofs.lemmas.Option.{same_Some}
use Rattle.docsis_wire.specs.declared.segment.ReadySegment.{ReadySegment}
use Rattle.ccf.specs.declared.joiner.FedUnlessWhole.{FedUnlessWhole}
use Rattle.ccf.specs.Feed.{IsOneFrame}
use Rattle.ccf.specs.Whole.{FeedsUnlessWhole}
use Rattle.reorder.specs.View.{IsLawful, next_taken}
use Rattle.reorder.specs.Verdicts.{after_take_next}
use Rattle.flow_core.specs.Inside.Losses.{GoesOn}
use Rattle.flow_core.specs.Inside.Steps.{counts_joined}
use Rattle.flow_core.proofs.Stopping.{stops-everywhere}
use Rattle.flow_core.proofs.FlowJoining.{step-gives}
use Rattle.flow_core.proofs.flow.Flow.join_unless_whole.Goals as goal

pub returns-in-Whole-clause-joins : goal.returns-in-Whole-clause-joins
returns-in-Whole-clause-joins g c =
    let check = g.C.HeaderCheck.accepts c.args.check.now in
    let flow = c.args.self.now in
    let feeds = subst (λ (answer : FedUnlessWhole). FeedsUnlessWhole check flow.joiner c.in-Some.ready.now.segment answer c.feed_unless_whole.new.self) c.in-Whole.is c.in_ok-joined.ensures.fed in (
      record { ready = c.in-Some.ready.now; next = sym c.in-Some.ensures.item; one = feeds.0 },
      ap (λ (unfinished : List ℕ). record flow { joiner = unfinished }) feeds.1,
    )

pub returns-in-Fed-clause-joins : goal.returns-in-Fed-clause-joins
returns-in-Fed-clause-joins g c =
    let check = g.C.HeaderCheck.accepts c.args.check.now in
    let flow = c.args.self.now in
    let ready = c.in-Some.ready.now in
    let fed = c.in-Fed.fed in
    let feeds = subst (λ (answer : FedUnlessWhole). FeedsUnlessWhole check flow.joiner ready.segment answer c.feed_unless_whole.new.self) c.in-Fed.is c.in_ok-joined.ensures.fed in
    let taken : c.take_next.new.self ≡ next_taken flow.window =
    c.take_next.ensures.after ∙ ap (after_take_next flow.window) (c.take_next.ensures.item ∙ sym c.in-Some.ensures.item) in (
      λ drained. (let held = ap is_some (c.in-Some.ensures.item ∙ drained) in cc),
      λ one. feeds.0 (subst (λ (r : ReadySegment). IsOneFrame check flow.joiner r.segment) (same_Some one.ready ready (sym one.next ∙ sym c.in-Some.ensures.item)) one.one),
      step-gives check flow c.end_step.new.self ready fed.frames.items c.feed_unless_whole.new.self fed.skipped
          (sym c.in-Some.ensures.item) feeds.1 feeds.2 (subst IsLawful taken c.take_next.ensures.lawful)
          stops-everywhere
          (subst (λ window. GoesOn flow.going_on (record flow { window = window; joiner = c.feed_unless_whole.new.self; counts = counts_joined flow.counts (length fed.frames.items) fed.skipped }) c.end_step.new.self) taken
          (subst (λ (count : ℕ). GoesOn flow.going_on (record flow { window = c.take_next.new.self; joiner = c.feed_unless_whole.new.self; counts = counts_joined flow.counts count fed.skipped }) c.end_step.new.self)
          (c.len.ensures ∙ fed.frames.ok.0) c.end_step.ensures.after))
          (c.end_step.ensures.lawful c.take_next.ensures.lawful),
    )
