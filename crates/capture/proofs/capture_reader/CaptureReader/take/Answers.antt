-- What the reader of its format took and gave.
use Rattle.std.proofs.Common.{◌++◌, sym, ◌∙◌, ap, subst}
use Rattle.capture.specs.SeenRecord.{given_by}
use Rattle.capture.specs.SeenCapture.{captured_by}
use Rattle.capture.specs.Captures.{captured_records, HasCapturedPcap}
use Rattle.capture.proofs.CaptureSteps.{takes_pcap, takes_pcapng}
use Rattle.capture.proofs.capture_reader.CaptureReader.take.Goals as goal

pub returns-in_ok-taken-in-OfPcap-clause-taken : goal.returns-in_ok-taken-in-OfPcap-clause-taken
returns-in_ok-taken-in-OfPcap-clause-taken c =
    let takes = c.in_ok-taken-in-OfPcap.ensures.taken in
    let given = given_by c.in_ok-taken-in-OfPcap.taken.record in
    let rest = c.in_ok-taken-in-OfPcap.taken.rest.now in
    let used = takes.goes_on.used in
    let same = c.captured.ensures ∙ ap (λ h. captured_records h given) c.header.ensures in
    record {
      used = used;
      piece_is = takes.goes_on.piece_is;
      captures = λ records bytes before.
          let ready = rw c.in-OfPcap.is at (c.begin.ensures.ready records bytes before) in
          subst (λ g. HasCapturedPcap c.take.new.self (records ++ g) (bytes ++ used)) (sym same)
          (takes_pcap c.in-OfPcap.reader c.take.new.self given c.args.piece.now rest takes c.in_ok-taken-in-OfPcap.ensures.some records bytes ready);
    }

pub returns-in_ok-take-in-OfPcapng-clause-taken : goal.returns-in_ok-take-in-OfPcapng-clause-taken
returns-in_ok-take-in-OfPcapng-clause-taken c =
    let takes = c.in_ok-take-in-OfPcapng.ensures.taken in
    let given = captured_by c.in_ok-take-in-OfPcapng.field-0.record in
    let rest = c.in_ok-take-in-OfPcapng.field-0.rest.now in
    record {
      used = takes.reads_on.used;
      piece_is = takes.reads_on.piece_is;
      captures = λ records bytes before.
          let ready = rw c.in-OfPcapng.is at (c.begin.ensures.ready records bytes before) in
          takes_pcapng c.in-OfPcapng.reader c.take-in-OfPcapng.new.self given c.args.piece.now rest takes c.in_ok-take-in-OfPcapng.ensures.some records bytes ready;
    }
