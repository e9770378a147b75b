use Rattle.std.proofs.Common.{map, refl}
use Rattle.frame_comparison.specs.Frames.{FlowFrames, kept}
use Rattle.frame_comparison.specs.Compared.{empty_flow}
use Rattle.frame_comparison.specs.Seen.{counts_of, listed}
use Rattle.frame_comparison.proofs.Moves.{map-replicate}
use Rattle.frame_comparison.proofs.comparison.FrameComparison.new.Goals as goal

pub returns : goal.returns
unfolding listed
returns c =
    let counts = c.in_ok-from_elem.ensures.items_if_clones_equal (λ y same. same) in
    let no_counts = map-replicate counts_of c.args.flows empty_flow in
    let analyser = map-replicate (λ (flow : FlowFrames). map kept flow.analyser.waiting) c.args.flows empty_flow in
    let here = map-replicate (λ (flow : FlowFrames). map kept flow.here.waiting) c.args.flows empty_flow in
    rw (no_counts, analyser, here)
    (rw (counts, c.none.ensures, c.in_ok-new.ensures.waiting, c.in_ok-new.ensures.only, c.in_ok-new-2.ensures.waiting, c.in_ok-new-2.ensures.only) refl)
