-- What was made is what each call made, since all of them succeeded.
use Rattle.std.proofs.Common.{◌≡◌, ℕ, Bool, List, [], Result, Ok, IfOk, refl, subst, ◌∙◌, arith}
use Rattle.std.specs.declared.alloc.AllocError.{AllocError}
use Rattle.bonded_flows.specs.declared.flow_table.FlowTable.{FlowTable}
use Rattle.bonded_flows.specs.Table.{StandsFor}
use Rattle.flow_records.specs.declared.record.FlowRecord.{FlowRecord}
use Rattle.lane.specs.declared.sids.SidRow.{SidRow}
use Rattle.loss_rule.specs.declared.rule.LossRule.{LossRule}
use Rattle.workers.specs.Inside.Opening.{AreOpenRings}
use Rattle.uplink.proofs.open.open_all.Goals as goal

-- what is said of what was made, where something was
of-made : {X : Type 0} (P : X → Type 0) (made : Result X AllocError) (x : X) → made ≡ Ok x → IfOk made P → P x
of-made P made x is said = subst (λ r. IfOk r P) is said

-- flows to which nothing came, made with this
abbrev Stands : {C : Type 0} → (C → List ℕ → Bool) → FlowTable C → C → LossRule → List FlowRecord → ℕ → List SidRow → Type 0
Stands accepts flows check rule records channels rows =
    StandsFor accepts flows (accepts check) (record { rule = rule; records = records; channels = channels; rows = rows }) [] []

pub returns : goal.returns
returns g c =
    let all = c.in_ok-all.all in
    let before = of-made _ _ all.0 c.in_ok-all.ensures.0 c.both_made-before.ensures in
    let own = of-made _ _ all.0.1 before.1 c.both_made.ensures in
    let others = of-made _ _ all.1 c.in_ok-all.ensures.1 c.both_made-2.ensures in
    let rings = of-made _ _ all.1.0 others.0 c.both_made-between.ensures in
    let own_flows = all.0.1.1 in
    let mailboxes = of-made _ _ all.1.1 others.1 c.both_made-mailboxes.ensures in
    record {
      channels_are = refl;
      lanes = of-made _ _ _ own.0 c.open_lanes-lanes.ensures;
      flows =
          subst (λ records. Stands g.C.HeaderCheck.accepts own_flows c.args.check c.args.rule records c.args.channels c.args.setup.now.sids.items) c.deref.ensures.value
          (subst (λ rows. Stands g.C.HeaderCheck.accepts own_flows c.args.check c.args.rule c.deref.result.now c.args.channels rows) c.deref-2.ensures.value
          (of-made _ _ _ own.1 c.new-flows.ensures.stands));
      in_use = of-made _ _ _ own.1 c.new-flows.ensures.in_use;
      rings =
          subst (λ records. AreOpenRings records all.1.0.0) c.deref-3.ensures.value
          (of-made (AreOpenRings c.deref-3.result.now) _ _ rings.0 c.open_rings-rings.ensures);
      none_closed = of-made _ _ _ rings.1 c.with_capacity-closed.ensures.items;
      room =
          let fits = of-made _ _ _ rings.1 c.with_capacity-closed.ensures.capacity in
          let count = c.len.ensures ∙ c.args.setup.now.flows.ok.0 in
          omega arith;
      arrivals = of-made _ _ _ mailboxes.0 c.open_mailbox-arrivals.ensures;
      requests = of-made _ _ _ mailboxes.1 c.open_mailbox-requests.ensures;
    }
