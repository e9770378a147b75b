use Rattle.std.proofs.Common.{◌∙◌, List, ℕ, ◌∷◌, [], ap, arith}
use Rattle.text_lines.specs.Field.{IsHex}
use Rattle.texts.specs.Trace.Line.{word_of, burst_line}
use Rattle.texts.proofs.trace.trace_line.peek_burst.Goals as goal

pub returns-clause-carried : goal.returns-clause-carried
returns-clause-carried c = λ ring bytes spells.
    let field = c.in_ok-field.field.now in
    let hex : IsHex field = (bytes, spells) in
    let three = c.in_ok-channel in
    let words = three.ensures ∙ ap (λ behind. three.channel.now ∷ three.number.now ∷ three.check.now ∷ behind) (c.in_ok-field.ensures hex) in
    record {
      after = three.channel.now ∷ three.number.now ∷ three.check.now ∷ field ∷ [];
      are = ap (λ (after : List (List ℕ)). word_of burst_line ∷ after) words;
      values = (c.in-Ok.ensures.number ring, (c.in-Ok-number_of.ensures.number, (c.in-Ok-read_check.ensures.check, (spells, tt))));
      ring_is = tt;
    }

pub returns-clause-channel : goal.returns-clause-channel
returns-clause-channel c =
    let within = (c.in-Ok.ensures.number 0).0.within in
    let some = c.args.width.some_channel in
    omega arith
