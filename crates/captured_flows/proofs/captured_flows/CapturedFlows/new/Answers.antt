use Rattle.captured_flows.proofs.MapFaults.{fault-of}
use Rattle.captured_flows.proofs.captured_flows.CapturedFlows.new.Goals as goal

pub returns-in-Err-clause-fault : goal.returns-in-Err-clause-fault
returns-in-Err-clause-fault g c =
    fault-of c.args.capture_map c.in_ok-setup.setup c.in-Err.error c.in_ok-setup.ensures.flows c.in_ok-setup.ensures.sids c.in-Err.ensures.fault
