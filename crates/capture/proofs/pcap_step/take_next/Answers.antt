-- A whole record stands at the front of the piece.
use Rattle.std.proofs.Common.{◌≡◌, [], arith}
use Rattle.std.proofs.lemmas.Grind.{common_steps}
use Rattle.capture.proofs.PcapSteps.{whole_record}
use Rattle.capture.proofs.pcap_step.take_next.Goals as goal

pub returns-clause-passes : goal.returns-clause-passes
returns-clause-passes c =
    let none : c.args.pending.now.items ≡ [] = grind (arith, common_steps, c.is_empty.ensures, c.if-is_empty.true) in
    whole_record _ c.in-Head.header c.in-Some.head _ _ _ _ _ c.in-Head.is none c.in_ok-bytes.ensures.items c.in-Some.ensures
