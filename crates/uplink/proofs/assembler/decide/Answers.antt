-- The flow takes the decision, or not, or not to the end: the rings stay.
use Rattle.uplink.proofs.FramesOffered.{rings-decided}
use Rattle.uplink.proofs.ItemsTaken.{decided-of}
use Rattle.uplink.proofs.assembler.decide.Goals as goal

pub returns-in_err-ok-clause-rings : goal.returns-in_err-ok-clause-rings
returns-in_err-ok-clause-rings g c =
    rings-decided g.C.HeaderCheck.accepts c.args.flows.now c.decide.new.self c.args.feeding.now c.decide.new.out c.args.flow _ c.decide.result
    c.decide.ensures.takes c.decide.ensures.not_taken

pub returns-clause-rings : goal.returns-clause-rings
returns-clause-rings g c =
    rings-decided g.C.HeaderCheck.accepts c.args.flows.now c.decide.new.self c.args.feeding.now c.decide.new.out c.args.flow _ c.decide.result
    c.decide.ensures.takes c.decide.ensures.not_taken

pub returns-in_err-ok-clause-at_most : goal.returns-in_err-ok-clause-at_most
returns-in_err-ok-clause-at_most g c =
    decided-of g.C.HeaderCheck.accepts c.args.flows.now c.decide.new.self c.args.feeding.now c.decide.new.out _ c.args.flow c.decide.result
    c.decide.ensures.takes c.decide.ensures.not_taken

pub returns-clause-at_most : goal.returns-clause-at_most
returns-clause-at_most g c =
    decided-of g.C.HeaderCheck.accepts c.args.flows.now c.decide.new.self c.args.feeding.now c.decide.new.out _ c.args.flow c.decide.result
    c.decide.ensures.takes c.decide.ensures.not_taken
