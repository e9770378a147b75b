-- A new flow stands for no events.
use Rattle.std.proofs.Common.{refl}
use Rattle.flow_core.proofs.Standing.{new-stands}
use Rattle.flow_core.proofs.flow.Flow.new.Goals as goal

pub returns : goal.returns
returns c = record {
  stands = λ check. new-stands check c.args.flow_record.now _ c.requires c.in_ok-new.ensures.empty c.in_ok-new.ensures.lawful c.new-2.ensures c.none.ensures refl;
}
