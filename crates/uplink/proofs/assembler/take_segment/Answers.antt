-- The flow is made ready, and takes the segment.
use Rattle.std.proofs.Common.{[], sym, ◌∙◌, arith}
use Rattle.uplink.specs.Inside.Feeding.{HasOffered}
use Rattle.uplink.proofs.FramesOffered.{on-good, rings-stay}
use Rattle.uplink.proofs.ItemsTaken.{same-count, takes-on, none-of, all-of}
use Rattle.uplink.proofs.assembler.take_segment.Goals as goal

pub returns-in_err-ok-clause-rings : goal.returns-in_err-ok-clause-rings
returns-in_err-ok-clause-rings g c =
    rings-stay g.C.HeaderCheck.accepts c.args.flows.now c.prepare.new.self c.args.feeding.now c.prepare.new.out c.args.flow [] c.prepare.ensures.takes

pub take_segment-requires-clause-exists : goal.take_segment-requires-clause-exists
take_segment-requires-clause-exists g c =
    let same = same-count g.C.HeaderCheck.accepts HasOffered c.args.flows.now c.prepare.new.self c.args.feeding.now c.prepare.new.out c.args.flow [] c.requires.in_use c.prepare.ensures.takes in
    omega (arith, same, c.requires.exists)

pub take_segment-requires-clause-prepared : goal.take_segment-requires-clause-prepared
take_segment-requires-clause-prepared g c = on-good c.prepare.result (sym c.in_ok-ok.ensures.variant) c.prepare.ensures.prepared

pub returns-in_err-ok-2-clause-rings : goal.returns-in_err-ok-2-clause-rings
returns-in_err-ok-2-clause-rings g c =
    let accepts = g.C.HeaderCheck.accepts in
    rings-stay accepts c.prepare.new.self c.take_segment.new.self c.prepare.new.out c.take_segment.new.out c.args.flow _ c.take_segment.ensures.takes
    ∙ rings-stay accepts c.args.flows.now c.prepare.new.self c.args.feeding.now c.prepare.new.out c.args.flow [] c.prepare.ensures.takes

pub returns-clause-rings : goal.returns-clause-rings
returns-clause-rings g c =
    let accepts = g.C.HeaderCheck.accepts in
    rings-stay accepts c.prepare.new.self c.take_segment.new.self c.prepare.new.out c.take_segment.new.out c.args.flow _ c.take_segment.ensures.takes
    ∙ rings-stay accepts c.args.flows.now c.prepare.new.self c.args.feeding.now c.prepare.new.out c.args.flow [] c.prepare.ensures.takes

pub returns-clause-takes : goal.returns-clause-takes
returns-clause-takes g c = (
  c.args.flow,
  takes-on g.C.HeaderCheck.accepts HasOffered c.args.flows.now c.prepare.new.self c.take_segment.new.self c.args.feeding.now c.prepare.new.out c.take_segment.new.out
      c.args.flow _ c.prepare.ensures.takes c.take_segment.ensures.takes,
)

pub returns-in_err-ok-clause-at_most : goal.returns-in_err-ok-clause-at_most
returns-in_err-ok-clause-at_most g c =
    none-of g.C.HeaderCheck.accepts c.args.flows.now c.prepare.new.self c.args.feeding.now c.prepare.new.out _ c.args.flow c.prepare.ensures.takes

pub returns-in_err-ok-2-clause-at_most : goal.returns-in_err-ok-2-clause-at_most
returns-in_err-ok-2-clause-at_most g c =
    all-of g.C.HeaderCheck.accepts c.args.flows.now c.take_segment.new.self c.args.feeding.now c.take_segment.new.out _ c.args.flow
    (takes-on g.C.HeaderCheck.accepts HasOffered c.args.flows.now c.prepare.new.self c.take_segment.new.self c.args.feeding.now c.prepare.new.out c.take_segment.new.out
    c.args.flow _ c.prepare.ensures.takes c.take_segment.ensures.takes)

pub returns-clause-at_most : goal.returns-clause-at_most
returns-clause-at_most g c =
    all-of g.C.HeaderCheck.accepts c.args.flows.now c.take_segment.new.self c.args.feeding.now c.take_segment.new.out _ c.args.flow
    (takes-on g.C.HeaderCheck.accepts HasOffered c.args.flows.now c.prepare.new.self c.take_segment.new.self c.args.feeding.now c.prepare.new.out c.take_segment.new.out
    c.args.flow _ c.prepare.ensures.takes c.take_segment.ensures.takes)
