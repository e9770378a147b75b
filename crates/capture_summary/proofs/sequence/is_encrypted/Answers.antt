use Rattle.std.proofs.Common.{sym, ◌∙◌}
use Rattle.capture_summary.specs.Seen.{element_parts}
use Rattle.capture_summary.proofs.Elements.{element_passed}
use Rattle.capture_summary.proofs.sequence.is_encrypted.Goals as goal

pub loop-element-preserved : goal.loop-element-preserved
loop-element-preserved c =
    let left = c.loop-element.invariant in
    element_passed left.0 c.loop-element.rest.now (element_parts c.in-Some.element, c.in-Some.others.now) _ left.1 left.2 (sym c.in-Some.ensures)
    (sym c.says_encrypted.ensures ∙ c.if-says_encrypted.false)
