-- Of those that were looked at, the least number is known.
use Rattle.std.proofs.Common.{◌≡◌, ◌<◌, Some, slice_get}
use Rattle.reorder.specs.Limits.{modulus}
use Rattle.capture_rules.specs.declared.arrival.HandedOn.{HandedOn}
use Rattle.capture_rules.proofs.BeginningSoFar.{IsLeastTo}
use Rattle.capture_rules.proofs.beginning.first_number.Given as goal

abbrev pub invariant-loop-one : goal.invariant-loop-one
invariant-loop-one g l = record {
  in_range : l.least < modulus;
  least : (first : HandedOn g.row.T.Denot) (stands : slice_get l.kept 0 ≡ Some first) → l.first ≡ first.arrival.number → IsLeastTo l.kept first stands l.one-index l.least;
}
