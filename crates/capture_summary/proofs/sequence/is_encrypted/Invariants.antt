use Rattle.std.proofs.Common.{◌≡◌, ◌≤◌, ℕ, length}
use Rattle.std.specs.List.{list_any}
use Rattle.capture_summary.specs.Elements.{elements_within}
use Rattle.capture_summary.specs.Sequence.{is_encrypted, says_encrypted}
use Rattle.capture_summary.proofs.sequence.is_encrypted.Given as goal

-- the elements of what is left say whether the frame is encrypted
abbrev pub invariant-loop-element : goal.invariant-loop-element
invariant-loop-element l = (most : ℕ) × (length l.rest ≤ most) × (is_encrypted l.extended ≡ list_any says_encrypted (elements_within most l.rest))

abbrev pub decreases-loop-element : goal.decreases-loop-element
decreases-loop-element l = length l.rest
