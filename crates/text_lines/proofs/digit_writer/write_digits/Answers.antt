use Rattle.std.proofs.Common.{◌≡◌, ℕ, ◌-◌, ◌*◌, ◌/◌, length, take, refl, sym, ap, ◌∙◌, arith}
use Rattle.hex.specs.Hex.{encode_with, encode_lower}
use Rattle.text_lines.proofs.DigitsWritten.{block_written, all_written}
use Rattle.text_lines.proofs.digit_writer.write_digits.Goals as goal

pub loop-block-init : goal.loop-block-init
unfolding encode_with
loop-block-init c = refl

pub loop-block-preserved : goal.loop-block-preserved
loop-block-preserved c =
    block_written c.args.bytes.now c.loop-block.digits c.digits_of.result.0 c.digits_of.result.1 c.loop-block.block (omega arith) (omega arith) (omega arith) (omega arith)
    c.digits_of.ensures c.loop-block.invariant

pub returns : goal.returns
returns c =
    let bytes = c.args.bytes.now in
    let digits = c.loop-block.digits in
    let done = length bytes / 16 * 16 in
    let ends : c.loop-block.block ≡ length bytes / 16 = (let least = c.loop-block-test.false in let most = c.loop-block.auto.block-end in omega arith) in
    let places : 32 * c.loop-block.block ≡ 2 * done = omega arith in
    let whole : 16 * c.loop-block.block ≡ done = omega arith in
    let so_far : take (2 * done) digits ≡ encode_lower (take done bytes) =
    sym (ap (λ (k : ℕ). take k digits) places) ∙ c.loop-block.invariant ∙ ap (λ (k : ℕ). encode_lower (take k bytes)) whole in
    let size : length digits ≡ 2 * length bytes = (let kept = c.loop-block.auto.digits in let given = c.requires in omega arith) in
    all_written bytes digits c.encode_to_slice.new.output done (length digits - 2 * done) (length bytes - done) size (omega arith) refl refl
    (rw c.unwrap.ensures at c.encode_to_slice.ensures.written) so_far
