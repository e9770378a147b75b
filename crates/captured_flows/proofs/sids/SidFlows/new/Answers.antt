use Rattle.std.proofs.Common.{List, take, sym, subst}
use Rattle.std.proofs.lemmas.List.{take_more}
use Rattle.capture_map.specs.declared.map.MapSid.{MapSid}
use Rattle.captured_flows.specs.Sids.{IsTableOf}
use Rattle.captured_flows.proofs.SidTable.{table-none}
use Rattle.captured_flows.proofs.sids.SidFlows.new.Goals as goal

pub loop-row-init : goal.loop-row-init
loop-row-init c = record {
  many = c.in_ok-flows.ensures.many;
  table = table-none c.in_ok-flows.flows.items c.in_ok-flows.ensures.many c.in_ok-flows.ensures.none;
}

pub loop-row-preserved : goal.loop-row-preserved
loop-row-preserved c = record {
  many = c.put.ensures.many;
  table = subst (λ (rows : List MapSid). IsTableOf rows c.put.new.flows.items) (sym (take_more c.args.rows.now c.loop-row.row-index _ c.loop-row-test.true))
      (c.put.ensures.put (take c.loop-row.row-index c.args.rows.now) c.loop-row.invariant.table);
}
