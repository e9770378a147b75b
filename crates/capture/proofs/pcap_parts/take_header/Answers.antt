-- The 24 bytes that are there are no header.
use Rattle.std.proofs.Common.{◌≡◌, length, ◌∙◌, arith}
use Rattle.capture.proofs.PcapSteps.{no_pcap}
use Rattle.capture.proofs.pcap_parts.take_header.Goals as goal

pub returns-in-None-clause-fault : goal.returns-in-None-clause-fault
returns-in-None-clause-fault c =
    let size : length c.fill.new.pending.items ≡ 24 = omega (arith, c.in_ok-rest.ensures.room, c.len.ensures) in
    no_pcap _ _ _ _ c.in_ok-rest.ensures.moved size (λ header e. c.in-None.ensures.none header (c.deref.ensures.value ∙ e))
