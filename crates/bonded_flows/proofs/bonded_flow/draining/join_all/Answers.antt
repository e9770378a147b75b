-- The flow goes on until nothing is next, which comes within the width of its window.
use Rattle.std.proofs.Common.{ℕ, ◌+◌, ◌<◌, ◌++◌, Bool, List, [], map, ap, subst, sym, ◌∙◌, arith, inl, inr, append_assoc, append-nil}
use Rattle.std.proofs.lemmas.List.{map-append}
use Rattle.flow_records.specs.declared.record.FlowRecord.{FlowRecord}
use Rattle.flow_core.specs.declared.flow.Flow.{Flow}
use Rattle.flow_core.specs.declared.event.Applied.{Applied}
use Rattle.flow_core.specs.Fates.{IsExpected}
use Rattle.flow_core.specs.Events.{FlowEvent}
use Rattle.flow_core.specs.Stands.{StandsFor, IsDrained}
use Rattle.flow_core.proofs.Draining.{draining-ends}
use Rattle.flow_core.proofs.Giving.{drained_of_expected}
use Rattle.consumer.specs.declared.given.Given.{Given}
use Rattle.consumer.specs.declared.given.Given.TheVariants.{Frame}
use Rattle.bonded_flows.specs.Taking.{Joins}
use Rattle.bonded_flows.specs.Inside.Steps.{JoinsNext}
use Rattle.bonded_flows.proofs.bonded_flow.draining.join_all.Goals as goal

-- where a segment is next, the flow has come less than the width of its window further
within : (check : List ℕ → Bool) (r : FlowRecord) (flow now : Flow) (events : List FlowEvent) (answers : List Applied) (y z : ℕ) (given more : List (List ℕ))
    → StandsFor check r flow events answers y given → StandsFor check r now events answers z more → ¬ (IsDrained now) → z < y + r.window
within check r flow now events answers y z given more before after next =
    elim after.come_to [
      | inl same ↦ absurd (next (drained_of_expected check r now events answers z more after (subst (IsExpected after.fates) (sym same) after.expected)))
      | inr (less, kept) ↦ draining-ends check r flow events answers y given after.fates before after.after z kept
    ]

pub loop-joined-init : goal.loop-joined-init
loop-joined-init g c = record {
  more = [];
  was_given = λ start given before. subst (λ all. g.O.Consumer.after start all c.args.out.now) (sym (append-nil given)) before;
  stands = λ r events answers y given before. (
    y,
    subst (λ all. StandsFor (g.C.HeaderCheck.accepts c.args.check.now) r c.args.flow.now events answers y all) (sym (append-nil given)) before,
    omega arith,
    omega arith,
  );
}

pub loop-joined-preserved : goal.loop-joined-preserved
loop-joined-preserved g c =
    let accepted = g.C.HeaderCheck.accepts c.args.check.now in
    let inv = c.loop-joined.invariant in
    let step = subst (λ (was_next : Bool). JoinsNext g.O.Consumer.after accepted c.args.index c.loop-joined.flow c.loop-joined.out was_next c.join_next.new.flow c.join_next.new.out)
    c.if-not-was_next.false c.in_ok-was_next.ensures.joins in
    let frames = step.1.0 in
    record {
      more = inv.more ++ frames;
      was_given = λ start given before.
          subst (λ all. g.O.Consumer.after start all c.join_next.new.out)
          (append_assoc given (map (Frame c.args.index) inv.more) (map (Frame c.args.index) frames)
          ∙ ap (λ (all : List Given). given ++ all) (sym (map-append (Frame c.args.index) inv.more frames)))
          (step.1.1 start (given ++ map (Frame c.args.index) inv.more) (inv.was_given start given before));
      stands = λ r events answers y given before.
          let now = inv.stands r events answers y given before in
          let gives = step.1.2 r events answers now.0 (given ++ inv.more) now.1 in
          let near = within accepted r c.args.flow.now c.loop-joined.flow events answers y now.0 given (given ++ inv.more) before now.1 step.0 in (
            gives.0,
            subst (λ all. StandsFor accepted r c.join_next.new.flow events answers gives.0 all) (append_assoc given inv.more frames) gives.2,
            omega (arith, now.2, gives.1),
            omega (arith, now.2, near),
          );
    }

pub returns-in_err-was_next-clause-joins : goal.returns-in_err-was_next-clause-joins
returns-in_err-was_next-clause-joins g c =
    let inv = c.loop-joined.invariant in
    let same = c.in_err-was_next.ensures.refused in
    subst (λ (flow : Flow). Joins g.O.Consumer.after (g.C.HeaderCheck.accepts c.args.check.now) c.args.index c.args.flow.now c.args.out.now flow c.join_next.new.out) (sym same.0)
    (subst (λ out. Joins g.O.Consumer.after (g.C.HeaderCheck.accepts c.args.check.now) c.args.index c.args.flow.now c.args.out.now c.loop-joined.flow out) (sym same.1)
    (record { more = inv.more; was_given = inv.was_given; stands = λ r events answers y given before. (let now = inv.stands r events answers y given before in (now.0, now.1)) }))

pub returns-then-not-was_next-clause-joins : goal.returns-then-not-was_next-clause-joins
returns-then-not-was_next-clause-joins g c =
    let accepted = g.C.HeaderCheck.accepts c.args.check.now in
    let inv = c.loop-joined.invariant in
    let step = subst (λ (was_next : Bool). JoinsNext g.O.Consumer.after accepted c.args.index c.loop-joined.flow c.loop-joined.out was_next c.join_next.new.flow c.join_next.new.out)
    c.if-not-was_next.true c.in_ok-was_next.ensures.joins in
    subst (λ (flow : Flow). Joins g.O.Consumer.after accepted c.args.index c.args.flow.now c.args.out.now flow c.join_next.new.out) (sym step.1)
    (subst (λ out. Joins g.O.Consumer.after accepted c.args.index c.args.flow.now c.args.out.now c.loop-joined.flow out) (sym step.2)
    (record { more = inv.more; was_given = inv.was_given; stands = λ r events answers y given before. (let now = inv.stands r events answers y given before in (now.0, now.1)) }))

pub returns-clause-drained : goal.returns-clause-drained
returns-clause-drained g c =
    let w = c.requires in
    let now = c.loop-joined.invariant.stands w.flow_record w.events w.answers w.y w.given w.stands in
    absurd (omega (arith, now.3, w.in_range.window_in_range))
