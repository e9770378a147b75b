use Rattle.std.proofs.Common.{◌∙◌}
use Rattle.text_lines.proofs.DigitsLookedAt.{all_marked, halves_are}
use Rattle.text_lines.proofs.digit_block.is_digit_block.Goals as goal

pub returns : goal.returns
returns c =
    let front = all_marked _ _ c.marks_of_digits.ensures in
    let back = all_marked _ _ c.marks_of_digits-2.ensures in
    c.are_all_values.ensures ∙ rw (front, back) (halves_are c.args.digits.now c.told-digits)
