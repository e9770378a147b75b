use Rattle.std.proofs.Common.{◌∙◌, sym, arith}
use Rattle.text_lines.proofs.DigitBlocks.{block-ok, block-none}
use Rattle.text_lines.proofs.digit_block.spell_block.Goals as goal

pub returns-then-are_all_values : goal.returns-then-are_all_values
returns-then-are_all_values c =
    block-ok c.args.digits.now c.split_pairs.result.0 c.split_pairs.result.1 c.values_of_digits-high.result c.values_of_digits-low.result
    c.split_pairs.ensures c.values_of_digits-high.ensures c.values_of_digits-low.ensures (omega arith) (omega arith) (sym c.are_all_values.ensures ∙ c.if-are_all_values.true)

pub returns-else-are_all_values : goal.returns-else-are_all_values
returns-else-are_all_values c =
    block-none c.args.digits.now c.split_pairs.result.0 c.split_pairs.result.1 c.values_of_digits-high.result c.values_of_digits-low.result
    c.split_pairs.ensures c.values_of_digits-high.ensures c.values_of_digits-low.ensures (omega arith) (omega arith) (sym c.are_all_values.ensures ∙ c.if-are_all_values.false)
