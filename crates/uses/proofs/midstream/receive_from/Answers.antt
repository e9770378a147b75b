-- The skip and the segments are taken, and all flows are closed.
use Rattle.std.proofs.Common.{◌≡◌, ℕ, Bool, List, [], length, ap, sym, subst, ◌∙◌, arith}
use Rattle.flow_core.specs.declared.counts.FlowCounts.{FlowCounts}
use Rattle.flow_records.specs.declared.record.FlowRecord.{FlowRecord}
use Rattle.lane.specs.Limits.{channel_limit}
use Rattle.lane.specs.declared.sids.SidRow.{SidRow}
use Rattle.loss_rule.specs.declared.rule.LossRule.{LossRule}
use Rattle.consumer.specs.Collecting.{HasNothing, HasCollected}
use Rattle.bonded_flows.specs.declared.flow_table.FlowTable.{FlowTable}
use Rattle.bonded_flows.specs.Table.{StandsFor}
use Rattle.uplink.specs.Inside.Collected.{AreFlowsOf}
use Rattle.uses.proofs.TableTakes.{holds-good, takes-of-one, as-many}
use Rattle.uses.proofs.MidstreamOutcomes.{HasReceived, order_of, items_of, has-received, ruled-outcomes}
use Rattle.uses.proofs.midstream.receive_from.Given.{Over}
use Rattle.uses.proofs.midstream.receive_from.Goals as goal
use Rattle.uses.proofs.midstream.receive_from.Goals.{After-deref-4}

-- flows to which nothing came, made with this
abbrev Stands : {C : Type 0} → (C → List ℕ → Bool) → FlowTable C → C → LossRule → List FlowRecord → ℕ → List SidRow → Type 0
Stands accepts flows check rule records channels rows =
    StandsFor accepts flows (accepts check) (record { rule = rule; records = records; channels = channels; rows = rows }) [] []

pub take_all-requires-clause-exists : goal.take_all-requires-clause-exists
take_all-requires-clause-exists g c =
    let accepts = g.C.HeaderCheck.accepts in
    let flows = c.in_ok-flows.flows in
    let skipped = holds-good c.decide.result (sym c.is_err.ensures.value ∙ c.if-is_err.false) c.decide.ensures.takes in
    let same = as-many HasCollected accepts flows c.decide.new.self c.in_ok-given.given c.decide.new.out _ c.in_ok-flows.ensures.in_use
    (takes-of-one HasCollected accepts flows c.decide.new.self c.in_ok-given.given c.decide.new.out c.args.flow _ skipped) in
    let count : length flows.slots.items ≡ length c.args.setup.now.flows.items = c.in_ok-flows.ensures.stands.flow_count ∙ ap length c.deref.ensures.value in
    omega (arith, same, count, c.requires.exists)

-- what each flow gave
received : (g : Over) (c : After-deref-4 g)
    → HasReceived c.args.rule (g.C.HeaderCheck.accepts c.args.check) c.args.setup.now (order_of c.args.came.items) (items_of c.args.flow c.args.number c.args.came.items)
    c.close_all.new.out.frames.items c.in_ok-counts.counts.items
received g c =
    let accepts = g.C.HeaderCheck.accepts in
    let setup = c.args.setup.now in
    let flows = c.in_ok-flows.flows in
    let stands = subst (λ records. Stands accepts flows c.args.check c.args.rule records channel_limit setup.sids.items) c.deref.ensures.value
    (subst (λ rows. Stands accepts flows c.args.check c.args.rule c.deref.result.now channel_limit rows) c.deref-2.ensures.value
    (subst (λ channels. Stands accepts flows c.args.check c.args.rule c.deref.result.now channels c.deref-2.result.now) c.channels-channels.ensures.is c.in_ok-flows.ensures.stands)) in
    let nothing = subst (λ n. HasNothing n 0 c.in_ok-given.given) (c.len.ensures ∙ setup.flows.ok.0) c.in_ok-given.ensures in
    let skipped = holds-good c.decide.result (sym c.is_err.ensures.value ∙ c.if-is_err.false) c.decide.ensures.takes in
    has-received accepts (accepts c.args.check) c.args.rule setup c.args.flow c.args.number c.args.came.items flows c.decide.new.self c.take_all.new.flows
    c.in_ok-given.given c.decide.new.out c.take_all.new.out c.close_all.new.out c.in_ok-counts.counts.items stands nothing
    (c.consumers_begin_with_nothing_given.ensures.collected c.in_ok-given.given) c.collected_has_what_was_given.ensures.frames skipped c.in_ok-take_all.ensures.takes
    c.in_ok-counts.ensures c.if-not-given.false

pub outcomes_of-requires-clause-frames : goal.outcomes_of-requires-clause-frames
outcomes_of-requires-clause-frames g c = (received g c).many ∙ sym (ap length c.deref-3.ensures.value)

pub outcomes_of-requires-clause-counts : goal.outcomes_of-requires-clause-counts
outcomes_of-requires-clause-counts g c = ap length c.deref-4.ensures.value ∙ (received g c).count ∙ sym (ap length c.deref-3.ensures.value)

pub returns-clause-gives : goal.returns-clause-gives
returns-clause-gives g c =
    let setup = c.args.setup.now in
    let frames = c.close_all.new.out.frames.items in
    let counts = c.in_ok-counts.counts.items in
    let flows = c.in_ok-outcomes_of.field-0.items in
    ruled-outcomes c.args.rule (g.C.HeaderCheck.accepts c.args.check) setup (order_of c.args.came.items) (items_of c.args.flow c.args.number c.args.came.items) frames counts flows
    (received g (goal.at.returns-clause-gives g c).After-deref-4)
    (subst (λ (records : List FlowRecord). AreFlowsOf records frames counts flows) c.deref-3.ensures.value
    (subst (λ (all : List FlowCounts). AreFlowsOf c.deref-3.result.now frames all flows) c.deref-4.ensures.value c.in_ok-outcomes_of.ensures))
