use Rattle.std.proofs.Common.{◌≡◌, ℕ, ◌≤◌, List, ◌++◌, take, drop, length, min, ap, ◌∙◌, arith}
use Rattle.burst_fates.specs.declared.missing_reason.MissingReason.{MissingReason}
use Rattle.frame_reasons.specs.Told.{reasons_of}
use Rattle.frame_reasons.proofs.Telling.{enough_explained, all_explained}
use Rattle.frame_reasons.proofs.reasons.Reasons.explain.Goals as goal

pub returns-then-len-most-clause-listed : goal.returns-then-len-most-clause-listed
returns-then-len-most-clause-listed c =
    let old = c.args.self.now in
    enough_explained old.fates.told.items old.listed.items c.args.frames.now c.min-most.result c.min-most.ensures (omega (arith, c.if-len-most.true, c.len.ensures))

pub returns-clause-listed : goal.returns-clause-listed
returns-clause-listed c =
    let old = c.args.self.now in
    let told = old.fates.told.items in
    let frames = c.args.frames.now in
    let within : c.loop-place.place ≤ c.min-most.result = c.loop-place.auto.place-end (omega (arith, c.if-len-most.false, c.len.ensures, c.len-place.ensures)) in
    let same : c.loop-place.place ≡ c.min-most.result = omega (arith, within, c.loop-place-test.false) in
    c.loop-place.invariant.listed
    ∙ ap (λ (place : ℕ). old.listed.items ++ reasons_of told (drop (length old.listed.items) (take place frames))) same
    ∙ all_explained told old.listed.items frames c.min-most.result c.min-most.ensures
