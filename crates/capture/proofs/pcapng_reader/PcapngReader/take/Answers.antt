-- A fault of the part is one of all bytes that came.
use Rattle.capture.proofs.pcapng_reader.PcapngReader.take.Goals as goal

pub returns-in-Err-clause-fault : goal.returns-in-Err-clause-fault
returns-in-Err-clause-fault c =
    λ records bytes read.
    let seen = rw (← c.self.view_is) at read in
    c.in-Err.ensures.fault records bytes seen.1
