-- With the header's last byte the header was taken; before it, all bytes are pending.
use Rattle.std.proofs.Common.{length, ap, arith}
use Rattle.std.proofs.lemmas.Result.{err_from_is_err_and}
use Rattle.capture.proofs.PcapSteps.{still_beginning, header_whole, fault_of_header}
use Rattle.capture.proofs.pcap_step.from_header.Goals as goal

pub returns-in-Some-clause-passes : goal.returns-in-Some-clause-passes
returns-in-Some-clause-passes c =
    let found = rw c.in-Some.is at c.in_ok-header.ensures.part in
    record {
      in_step = omega (arith, ap length found.none);
      moves = c.in_ok-header.ensures.some;
      goes_on = record {
        used = found.completes.used;
        piece_is = found.completes.piece_is;
        stands = λ records bytes before. header_whole c.in-Some.header records _ _ _ bytes before found.completes.whole_is found.none found.fits;
      };
    }

pub returns-in-None-clause-passes : goal.returns-in-None-clause-passes
returns-in-None-clause-passes c =
    let waits = rw c.in-None.is at c.in_ok-header.ensures.part in
    record {
      in_step = waits.fewer;
      moves = c.in_ok-header.ensures.some;
      goes_on = record {
        used = waits.completes.used;
        piece_is = waits.completes.piece_is;
        stands = λ records bytes before. still_beginning records _ _ _ bytes before waits.completes.whole_is waits.fewer;
      };
    }

pub returns-in_err-header-clause-fault : goal.returns-in_err-header-clause-fault
returns-in_err-header-clause-fault c =
    let p = err_from_is_err_and c.from_residual.result c.from_residual.ensures.1 in
    rw (p.1, p.2) (λ records bytes before. fault_of_header _ records _ _ bytes c.in_err-header.ensures.fault before)
