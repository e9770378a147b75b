-- What stands before the place is spelled by the bytes, as long as no entry was 16.
use Rattle.std.proofs.Common.{◌≡◌, ◌*◌, ◌/◌, ◌<◌, ◌≤◌, length, drop, vec_capacity}
use Rattle.hex.specs.Hex.{decode_pairs}
use Rattle.hex.proofs.Pairs.{prepend}
use Rattle.text_lines.specs.Inside.Digits.{SpellsNothing}
use Rattle.text_lines.proofs.digits.append_pairs.Given as goal

abbrev pub invariant-loop-place : goal.invariant-loop-place
invariant-loop-place l = record {
  count : length l.bytes.items ≡ l.place;
  room : length l.digits / 2 ≤ vec_capacity l.bytes;
  spelled : l.greatest < 16 → decode_pairs 0 l.digits ≡ prepend l.bytes.items (decode_pairs (2 * l.place) (drop (2 * l.place) l.digits));
  none : 16 ≤ l.greatest → SpellsNothing l.digits;
}
