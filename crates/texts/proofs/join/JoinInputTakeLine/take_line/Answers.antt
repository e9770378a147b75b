use Rattle.std.proofs.Common.{◌≡◌, ◌∷◌, ◌++◌, List, ℕ, rules, sym, subst}
use Rattle.docsis_wire.specs.declared.segment.Segment.{Segment}
use Rattle.text_lines.specs.Lines.{words_of}
use Rattle.texts.specs.Inside.Join.{IsJoinedSoFar}
use Rattle.texts.specs.Join.Line.{AddsSegment}
use Rattle.texts.proofs.JoinedSoFar.{JoinedSoFar-more}
use Rattle.texts.proofs.join.JoinInputTakeLine.take_line.Goals as goal

pub returns-clause-taken : goal.returns-clause-taken
returns-clause-taken c = λ before so_far.
    let fields = c.args.field.now ∷ words_of c.args.rest.now in
    let added : c.append.new.self.items ≡ c.args.self.now.frames.items ++ c.in_ok-fed.fed.frames.items = search rules in
    subst (λ (frames : List (List ℕ)). (more : List Segment) × AddsSegment before fields more × IsJoinedSoFar more c.feed.new.self frames) (sym added)
    (JoinedSoFar-more before fields c.in_ok-segment.segment c.args.self.now.joiner c.args.self.now.frames.items c.in_ok-fed.fed.frames.items c.feed.new.self so_far
    c.in_ok-segment.ensures.carried c.in_ok-fed.ensures.fed)
