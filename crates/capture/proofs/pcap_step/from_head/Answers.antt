-- With the last byte of a record's header it was taken; a record without bytes is whole then.
use Rattle.std.proofs.Common.{◌≡◌, ◌++◌, inl, inr, length, ap, sym, ◌∙◌, arith, refl}
use Rattle.std.proofs.lemmas.List.{append-nil}
use Rattle.std.proofs.lemmas.Result.{err_from_is_err_and}
use Rattle.std.proofs.lemmas.Option.{same_Some}
use Rattle.capture.specs.Pcap.{head_bytes}
use Rattle.capture.proofs.PcapSteps.{more_pending, record_whole, fault_of_head}
use Rattle.capture.proofs.pcap_step.from_head.Goals as goal

pub returns-in-None-clause-passes : goal.returns-in-None-clause-passes
returns-in-None-clause-passes c =
    let waits = rw c.in-None.is at c.in_ok-head.ensures.part in
    record {
      in_step = waits.fewer;
      moves = c.in_ok-head.ensures.some;
      goes_on = record {
        used = waits.completes.used;
        piece_is = waits.completes.piece_is;
        stands = λ records bytes before. more_pending c.args.header records _ _ _ bytes before waits.completes.whole_is (inl waits.fewer);
      };
    }

pub returns-in-Some-clause-passes : goal.returns-in-Some-clause-passes
returns-in-Some-clause-passes c =
    let found = rw c.in-Some.is at c.in_ok-head.ensures.part in
    let head = head_bytes c.args.header.endian c.in-Some.head in
    let rest = c.take_head.new.pending.items in
    let none : length rest ≡ 0 = ap length found.none in
    record {
      in_step = (omega (arith, none, c.if-head-gt0.true), found.short, found.fits);
      moves = c.in_ok-head.ensures.some;
      goes_on = record {
        used = found.completes.used;
        piece_is = found.completes.piece_is;
        stands = λ records bytes before.
            more_pending c.args.header records _ (head ++ rest) _ bytes before (ap (λ t. head ++ t) found.none ∙ append-nil head ∙ found.completes.whole_is)
            (inr (record { head = c.in-Some.head; bytes = rest; spelled = refl; fits = found.fits; short = found.short; fewer = omega (arith, none, c.if-head-gt0.true) }));
      };
    }

pub returns-in-Some-2-clause-passes : goal.returns-in-Some-2-clause-passes
returns-in-Some-2-clause-passes c =
    let found = rw c.in-Some-2.is at c.in_ok-head.ensures.part in
    let head = head_bytes c.args.header.endian c.in-Some-2.head in
    let bytes = c.new-bytes.result.items in
    let same : c.in-Some.head ≡ c.in-Some-2.head = same_Some _ _ (sym c.in-Some.is ∙ c.in-Some-2.is) in
    let size : length bytes ≡ c.in-Some-2.head.captured = omega (arith, ap length c.new-bytes.ensures.items, ap (λ h. h.captured) same, c.if-head-gt0.false) in
    record {
      in_step = omega (arith, ap length found.none);
      moves = c.in_ok-head.ensures.some;
      goes_on = record {
        used = found.completes.used;
        piece_is = found.completes.piece_is;
        stands = λ records all before.
            record_whole c.args.header records (record { head = c.in-Some-2.head; bytes = bytes }) _ _ _ all before
            (ap (λ t. head ++ t) c.new-bytes.ensures.items ∙ append-nil head ∙ found.completes.whole_is) found.none
            (record { fits = found.fits; size = size; short = found.short });
      };
    }

pub returns-in_err-head-clause-fault : goal.returns-in_err-head-clause-fault
returns-in_err-head-clause-fault c =
    let p = err_from_is_err_and c.from_residual.result c.from_residual.ensures.1 in
    rw (p.1, p.2) (λ records bytes before. fault_of_head _ c.args.header records _ _ bytes c.in_err-head.ensures.fault before)
