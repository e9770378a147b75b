-- With a record's last byte the record is whole.
use Rattle.std.proofs.Common.{◌++◌, inr, length, ap, sym, ◌∙◌, arith, refl, append_assoc}
use Rattle.capture.specs.Pcap.{head_bytes}
use Rattle.capture.proofs.PcapSteps.{more_pending, record_whole}
use Rattle.capture.proofs.pcap_step.from_bytes.Goals as goal

pub returns-in-Some-clause-passes : goal.returns-in-Some-clause-passes
returns-in-Some-clause-passes c =
    let found = rw c.in-Some.is at c.in_ok-bytes.ensures.part in
    let head = head_bytes c.args.header.endian c.args.head in
    let old = c.args.pending.now.items in
    let used = found.completes.used in
    record {
      in_step = omega (arith, ap length found.none);
      moves = c.in_ok-bytes.ensures.some;
      goes_on = record {
        used = used;
        piece_is = found.completes.piece_is;
        stands = λ records bytes before.
            record_whole c.args.header records _ (head ++ old) _ used bytes before (ap (λ t. head ++ t) found.completes.whole_is ∙ sym (append_assoc head old used)) found.none
            (record { fits = c.requires.fits; size = found.size; short = c.requires.short });
      };
    }

pub returns-in-None-clause-passes : goal.returns-in-None-clause-passes
returns-in-None-clause-passes c =
    let waits = rw c.in-None.is at c.in_ok-bytes.ensures.part in
    let head = head_bytes c.args.header.endian c.args.head in
    let old = c.args.pending.now.items in
    let used = waits.completes.used in
    record {
      in_step = (waits.fewer, c.requires.short, c.requires.fits);
      moves = c.in_ok-bytes.ensures.some;
      goes_on = record {
        used = used;
        piece_is = waits.completes.piece_is;
        stands = λ records bytes before.
            more_pending c.args.header records (head ++ old) _ used bytes before (ap (λ t. head ++ t) waits.completes.whole_is ∙ sym (append_assoc head old used))
            (inr (record { head = c.args.head; bytes = c.take_bytes.new.pending.items; spelled = refl; fits = c.requires.fits; short = c.requires.short; fewer = waits.fewer }));
      };
    }
