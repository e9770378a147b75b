use Rattle.std.proofs.Common.{ℕ, ◌∙◌}
use Rattle.frame_comparison.specs.Frames.{CameFrame}
use Rattle.frame_comparison.specs.Seen.{waiting_of}
use Rattle.frame_comparison.proofs.Moves.{same-both}
use Rattle.frame_comparison.proofs.Kept.{same-counts}
use Rattle.frame_comparison.proofs.settle.settle_sides.Goals as goal

pub returns-in_ok-settled-in-Here-clause-counts : goal.returns-in_ok-settled-in-Here-clause-counts
returns-in_ok-settled-in-Here-clause-counts c =
    let flow : ℕ = c.args.flow in
    let frame : CameFrame = c.args.frame.now in
    rw c.in-Here.is
    (same-counts _ _ _ _ _ _
    (c.in_ok-settled-in-Here.ensures.both ∙ same-both (waiting_of flow c.args.analyser.now) (waiting_of flow c.args.here.now) frame)
    c.in_ok-settled-in-Here.ensures.other_count c.in_ok-settled-in-Here.ensures.own_count)
