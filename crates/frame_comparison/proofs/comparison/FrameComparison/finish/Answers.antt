use Rattle.std.proofs.Common.{◌≡◌, ◌<◌, ℕ, length, ap, sym, ◌∙◌, rules, arith, add-one}
use Rattle.std.proofs.lemmas.List.{length-map, length-set}
use Rattle.frame_comparison.specs.Compared.{Comparison, ended, ended_to}
use Rattle.frame_comparison.specs.Seen.{ComparisonSeen, counts_of, seen_of, seen_after, waiting_of}
use Rattle.frame_comparison.proofs.SeenMoved.{ended-seen}
use Rattle.frame_comparison.proofs.comparison.FrameComparison.finish.Goals as goal

pub loop-flow-preserved : goal.loop-flow-preserved
loop-flow-preserved c =
    let flow : ℕ = c.loop-flow.flow in
    let kept : length c.end.new.self.counts ≡ length c.loop-flow.self.counts =
    ap (λ (one : ComparisonSeen). length one.counts) c.end.ensures ∙ length-set c.loop-flow.self.counts flow _
    in (
      ap (λ (one : ComparisonSeen). one.is_whole) c.end.ensures ∙ c.loop-flow.invariant.0,
      kept ∙ c.loop-flow.invariant.1,
      λ comparison is.
          let before : Comparison = ended_to flow comparison in
          let same : c.loop-flow.self ≡ seen_of before = c.loop-flow.invariant.2 comparison is in
          let counted : c.len-flow-end.result ≡ length c.self.inside.counts.items = search (rules, c.len-flow-end.ensures) in
          let opened : length c.self.inside.counts.items ≡ length c.args.self.now.counts = ap (λ (one : ComparisonSeen). length one.counts) c.self.view_is in
          let counts : length c.loop-flow.self.counts ≡ length before.flows =
          ap (λ (one : ComparisonSeen). length one.counts) same ∙ length-map before.flows counts_of
          in
          let all : length c.loop-flow.self.counts ≡ length c.args.self.now.counts = c.loop-flow.invariant.1 in
          let within : flow < length before.flows = omega arith in
          c.end.ensures
          ∙ (ap (λ (one : ComparisonSeen). seen_after flow (ended (waiting_of flow one.analyser) (waiting_of flow one.here)) one) same
          ∙ (ended-seen flow before within ∙ ap (λ (count : ℕ). seen_of (ended_to count comparison)) (sym (add-one flow)))),
    )
