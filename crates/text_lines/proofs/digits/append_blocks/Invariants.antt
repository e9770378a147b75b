-- What stands before the rest is spelled by the bytes.
use Rattle.std.proofs.Common.{◌≡◌, ◌*◌, ◌≤◌, length, drop, vec_capacity}
use Rattle.text_lines.specs.Inside.DigitBlocks.{SpellsFront}
use Rattle.text_lines.proofs.digits.append_blocks.Given as goal

abbrev pub invariant-loop-block : goal.invariant-loop-block
invariant-loop-block l = record {
  rest_is : l.rest ≡ drop (2 * length l.bytes.items) l.digits;
  spelled : SpellsFront l.digits l.bytes.items;
  within : 2 * length l.bytes.items ≤ length l.digits;
  room : vec_capacity l.fn.bytes ≤ vec_capacity l.bytes;
}

abbrev pub decreases-loop-block : goal.decreases-loop-block
decreases-loop-block l = length l.rest
