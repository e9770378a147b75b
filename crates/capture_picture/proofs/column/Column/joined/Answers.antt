use Rattle.std.proofs.Common.{◌≡◌, ℕ, ◌+◌, ◌<◌, ◌≢◌, List, length, get_or, set, Option, None, refl, arith, sym, ap, ◌∙◌, subst, get_or-set_other}
use Rattle.std.proofs.Math.ListN.{length-set}
use Rattle.std.proofs.lemmas.List.FromFn.{fill_by_all}
use Rattle.std.proofs.lemmas.List.Edits.{fill_by_more}
use Rattle.capture_picture.specs.Spans.{both_spans}
use Rattle.capture_picture.specs.declared.span.Span.{Span}
use Rattle.capture_picture.proofs.column.Column.joined.Goals as goal

pub loop-channel-preserved : goal.loop-channel-preserved
loop-channel-preserved c =
    let left = c.loop-channel.invariant in
    let spans : List (Option Span) = c.loop-channel.spans in
    let others : List (Option Span) = c.args.other.now.spans in
    let channel = c.loop-channel.channel in
    let of_both : ℕ → Option Span = λ k. both_spans (get_or c.args.self.now.spans k None) (get_or others k None) in
    let within : channel < length spans = omega (arith, left.0, c.loop-channel-test.true) in
    let new : c.both_spans.result ≡ of_both channel =
    c.both_spans.ensures ∙ ap (λ (one : Option Span). both_spans one (get_or others channel None)) (left.2 channel (omega arith))
    in (
      length-set spans channel c.both_spans.result ∙ left.0,
      subst (λ (one : Option Span). (k : ℕ) → k < channel + 1 → get_or (set spans channel one) k None ≡ of_both k) (sym new)
          (fill_by_more of_both spans channel None within left.1),
      λ k above. let other : k ≢ channel = omega (arith, above) in rw get_or-set_other (left.2 k (omega (arith, above))),
      left.3,
    )

pub returns : goal.returns
returns c =
    let spans : List (Option Span) = c.loop-channel.spans in
    let ones : List (Option Span) = c.args.self.now.spans in
    let left = c.loop-channel.invariant in
    let of_both : ℕ → Option Span = λ k. both_spans (get_or ones k None) (get_or c.args.other.now.spans k None) in
    let filled =
    fill_by_all of_both spans (length ones) None (left.0 ∙ sym left.3) (λ k below. left.1 k (omega (arith, below, left.3, c.loop-channel-test.false)))
    in
    rw (filled, c.joined.ensures) refl
