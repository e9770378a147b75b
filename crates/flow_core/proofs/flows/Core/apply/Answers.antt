-- One flow takes an event.
use Rattle.std.proofs.Common.{refl, sym, ap, subst, arith}
use Rattle.std.proofs.lemmas.Option.{slice_get_read}
use Rattle.flow_core.specs.declared.event.Applied.TheVariants.{Arrival, Decision, DecisionTo, DecisionSkip}
use Rattle.flow_core.specs.Stands.{TakesEvent}
use Rattle.flow_core.specs.Flows.{event_of}
use Rattle.flow_records.specs.Events.{flow_of}
use Rattle.flow_core.proofs.OneFlow.{others-stay, changes-at}
use Rattle.flow_core.proofs.flows.Core.apply.Goals as goal

pub returns-in-Arrive-clause-flow : goal.returns-in-Arrive-clause-flow
returns-in-Arrive-clause-flow g c =
    let flows = c.args.self.now.flows.items in
    let same = ap flow_of c.in-Arrive.is in
    let exists = c.requires.exists in
    let here = slice_get_read flows _ c.in-Arrive.flow c.index_mut.result.now refl (omega arith) c.index_mut.ensures.value in
    let taken = subst (λ e. TakesEvent c.index_mut.result.now e (Arrival c.arrive.result) c.arrive.new.self) (sym (ap event_of c.in-Arrive.is)) c.arrive.ensures in
    changes-at flows c.in-Arrive.flow (flow_of c.args.event) c.index_mut.result.now c.arrive.new.self
    (λ one one'. TakesEvent one (event_of c.args.event) (Arrival c.arrive.result) one') same here taken

pub returns-in-Arrive-clause-others : goal.returns-in-Arrive-clause-others
returns-in-Arrive-clause-others g c = others-stay c.args.self.now _ c.in-Arrive.flow _ c.arrive.new.self (ap flow_of c.in-Arrive.is) refl refl

pub returns-in-Gap-clause-flow : goal.returns-in-Gap-clause-flow
returns-in-Gap-clause-flow g c =
    let flows = c.args.self.now.flows.items in
    let same = ap flow_of c.in-Gap.is in
    let exists = c.requires.exists in
    let here = slice_get_read flows _ c.in-Gap.flow c.index_mut-in-Gap.result.now refl (omega arith) c.index_mut-in-Gap.ensures.value in
    let taken = subst (λ e. TakesEvent c.index_mut-in-Gap.result.now e (Decision c.gap.result) c.gap.new.self) (sym (ap event_of c.in-Gap.is)) c.gap.ensures.taken in
    changes-at flows c.in-Gap.flow (flow_of c.args.event) c.index_mut-in-Gap.result.now c.gap.new.self
    (λ one one'. TakesEvent one (event_of c.args.event) (Decision c.gap.result) one') same here taken

pub returns-in-Gap-clause-others : goal.returns-in-Gap-clause-others
returns-in-Gap-clause-others g c = others-stay c.args.self.now _ c.in-Gap.flow _ c.gap.new.self (ap flow_of c.in-Gap.is) refl refl

pub returns-in-GapTo-clause-flow : goal.returns-in-GapTo-clause-flow
returns-in-GapTo-clause-flow g c =
    let flows = c.args.self.now.flows.items in
    let same = ap flow_of c.in-GapTo.is in
    let exists = c.requires.exists in
    let here = slice_get_read flows _ c.in-GapTo.flow c.index_mut-in-GapTo.result.now refl (omega arith) c.index_mut-in-GapTo.ensures.value in
    let taken = subst (λ e. TakesEvent c.index_mut-in-GapTo.result.now e (DecisionTo c.gap_to.result) c.gap_to.new.self) (sym (ap event_of c.in-GapTo.is)) c.gap_to.ensures in
    changes-at flows c.in-GapTo.flow (flow_of c.args.event) c.index_mut-in-GapTo.result.now c.gap_to.new.self
    (λ one one'. TakesEvent one (event_of c.args.event) (DecisionTo c.gap_to.result) one') same here taken

pub returns-in-GapTo-clause-others : goal.returns-in-GapTo-clause-others
returns-in-GapTo-clause-others g c = others-stay c.args.self.now _ c.in-GapTo.flow _ c.gap_to.new.self (ap flow_of c.in-GapTo.is) refl refl

pub returns-in-SkipTo-clause-flow : goal.returns-in-SkipTo-clause-flow
returns-in-SkipTo-clause-flow g c =
    let flows = c.args.self.now.flows.items in
    let same = ap flow_of c.in-SkipTo.is in
    let exists = c.requires.exists in
    let here = slice_get_read flows _ c.in-SkipTo.flow c.index_mut-in-SkipTo.result.now refl (omega arith) c.index_mut-in-SkipTo.ensures.value in
    let taken = subst (λ e. TakesEvent c.index_mut-in-SkipTo.result.now e (DecisionSkip c.skip_to.result) c.skip_to.new.self) (sym (ap event_of c.in-SkipTo.is)) c.skip_to.ensures in
    changes-at flows c.in-SkipTo.flow (flow_of c.args.event) c.index_mut-in-SkipTo.result.now c.skip_to.new.self
    (λ one one'. TakesEvent one (event_of c.args.event) (DecisionSkip c.skip_to.result) one') same here taken

pub returns-in-SkipTo-clause-others : goal.returns-in-SkipTo-clause-others
returns-in-SkipTo-clause-others g c = others-stay c.args.self.now _ c.in-SkipTo.flow _ c.skip_to.new.self (ap flow_of c.in-SkipTo.is) refl refl
