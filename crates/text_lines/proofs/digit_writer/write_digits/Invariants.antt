-- The digits of the bytes before the block stand in their places.
use Rattle.std.proofs.Common.{◌≡◌, ◌*◌, take}
use Rattle.hex.specs.Hex.{encode_lower}
use Rattle.text_lines.proofs.digit_writer.write_digits.Given as goal

abbrev pub invariant-loop-block : goal.invariant-loop-block
invariant-loop-block l = take (32 * l.block) l.digits ≡ encode_lower (take (16 * l.block) l.bytes)
