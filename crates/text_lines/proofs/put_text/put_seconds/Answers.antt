use Rattle.std.proofs.Common.{◌<◌, ◌+◌, ◌%◌, length, ap, ◌∙◌, arith}
use Rattle.std.specs.Fmt.{decimal}
use Rattle.std.proofs.lemmas.Fmt.{decimal_nonempty}
use Rattle.text_lines.proofs.put_text.put_seconds.Goals as goal

pub split_at-requires : goal.split_at-requires
split_at-requires g c =
    let some : 0 < length (decimal (1000000000 + c.args.nanoseconds % 1000000000)) = decimal_nonempty (1000000000 + c.args.nanoseconds % 1000000000) (omega arith) in
    omega (arith, some, ap length (c.as_bytes.ensures.value ∙ c.format.ensures.text))
