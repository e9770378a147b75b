-- All are digits if those of the rest are, and none before them was no digit.
use Rattle.std.proofs.Common.{◌≡◌, ◌&&◌, ltb, length, drop}
use Rattle.std.specs.List.{list_all}
use Rattle.hex.specs.Hex.{is_hex_digit}
use Rattle.text_lines.proofs.digits.are_digits.Given as goal

abbrev pub invariant-loop-block : goal.invariant-loop-block
invariant-loop-block l = list_all is_hex_digit l.digits ≡ list_all is_hex_digit l.rest

abbrev pub decreases-loop-block : goal.decreases-loop-block
decreases-loop-block l = length l.rest

abbrev pub invariant-loop-digit : goal.invariant-loop-digit
invariant-loop-digit l = list_all is_hex_digit l.digits ≡ (ltb l.greatest 16 && list_all is_hex_digit (drop l.digit-index l.digit-items))
