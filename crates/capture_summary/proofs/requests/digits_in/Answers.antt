use Rattle.std.proofs.Common.{sym, subst, ◌∙◌}
use Rattle.capture_summary.proofs.PlainRows.{IsPlain, IsPlain-decimal}
use Rattle.capture_summary.proofs.requests.digits_in.Goals as goal

pub returns : goal.returns
returns c =
    let digits = c.as_bytes.ensures.value ∙ c.format.ensures.text in
    record {
      digits = digits;
      plain = subst IsPlain (sym digits) (IsPlain-decimal c.args.number c.ranges.number.fits);
    }
