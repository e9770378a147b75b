use Rattle.std.proofs.Common.{◌≡◌, ◌<◌, ℕ, length, ap, sym, ◌∙◌, rules, arith}
use Rattle.std.proofs.lemmas.List.{length-map}
use Rattle.frame_comparison.specs.Frames.{CameFrame, came, kept}
use Rattle.frame_comparison.specs.Seen.{ComparisonSeen, counts_of, seen_after, moved_in}
use Rattle.frame_comparison.proofs.Moves.{on_ok-then}
use Rattle.frame_comparison.proofs.SeenMoved.{taken-seen}
use Rattle.frame_comparison.proofs.comparison.FrameComparison.take.Goals as goal

pub returns-else-is_err-clause-taken : goal.returns-else-is_err-clause-taken
returns-else-is_err-clause-taken c = λ comparison is whole.
    let flow : ℕ = c.args.flow in
    let frame : CameFrame = came c.args.time c.args.frame.now c.args.bursts.now in
    let keeps : c.new-frame.result ≡ kept frame = c.new-frame.ensures in
    let counted : c.len.result ≡ length c.self.inside.counts.items = search (rules, c.len.ensures) in
    let counts : length c.self.inside.counts.items ≡ length comparison.flows =
    ap (λ (one : ComparisonSeen). length one.counts) (c.self.view_is ∙ is) ∙ length-map comparison.flows counts_of
    in
    let within : flow < length comparison.flows = omega arith in
    let settled : c.settle.new.self ≡ seen_after flow (moved_in c.args.side flow (kept frame) c.args.self.now.analyser c.args.self.now.here) c.args.self.now =
    rw (← keeps) (on_ok-then c.settle.result (sym c.if-is_err.ensures.value) c.settle.ensures.settled)
    in
    settled
    ∙ (ap (λ (one : ComparisonSeen). seen_after flow (moved_in c.args.side flow (kept frame) one.analyser one.here) one) is
    ∙ taken-seen c.args.side flow frame comparison within)
