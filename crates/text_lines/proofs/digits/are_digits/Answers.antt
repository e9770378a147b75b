use Rattle.std.proofs.Common.{◌&&◌, Bool, ap, sym, ◌∙◌}
use Rattle.std.specs.List.{list_all}
use Rattle.hex.specs.Hex.{is_hex_digit}
use Rattle.text_lines.proofs.DigitsLookedAt.{block-looked_at}
use Rattle.text_lines.proofs.digits.are_digits.Goals as goal

pub returns-then-not-is_digit_block : goal.returns-then-not-is_digit_block
returns-then-not-is_digit_block c =
    let parts = c.in-Some.ensures.cases in
    let others = c.in-Some.others.now in
    sym (c.loop-block.invariant ∙ block-looked_at c.loop-block.rest.now c.in-Some.block.now others parts.0 parts.1
    ∙ ap (λ (all : Bool). all && list_all is_hex_digit others) (sym c.is_digit_block.ensures ∙ c.if-not-is_digit_block.true))

pub loop-block-preserved : goal.loop-block-preserved
loop-block-preserved c =
    let parts = c.in-Some.ensures.cases in
    let others = c.in-Some.others.now in
    c.loop-block.invariant ∙ block-looked_at c.loop-block.rest.now c.in-Some.block.now others parts.0 parts.1
    ∙ ap (λ (all : Bool). all && list_all is_hex_digit others) (sym c.is_digit_block.ensures ∙ c.if-not-is_digit_block.false)
