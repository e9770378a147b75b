use Rattle.std.proofs.Common.{◌≡◌, ◌<◌, ℕ, List, length, get_or, ap, ◌∙◌, refl}
use Rattle.std.proofs.lemmas.List.{get_or_read}
use Rattle.frame_comparison.specs.declared.compared_counts.ComparedCounts.{ComparedCounts}
use Rattle.frame_comparison.specs.Compared.{ended}
use Rattle.frame_comparison.specs.Seen.{no_counts, with_counts, settled_counts, waiting_of}
use Rattle.frame_comparison.proofs.Moves.{ended-counts}
use Rattle.frame_comparison.proofs.comparison.FrameComparison.end.Goals as goal

pub returns : goal.returns
returns c =
    let flow : ℕ = c.args.flow in
    let all : List ComparedCounts = c.self.inside.counts.items in
    let within : flow < length all = rw (← c.self.view_is) at c.requires.flow in
    let read : c.index_mut.result.now ≡ get_or all flow no_counts = get_or_read all flow c.index_mut.result.now within c.index_mut.ensures.value no_counts in
    let more = ended-counts (waiting_of flow c.self.inside.analyser) (waiting_of flow c.self.inside.here) c.end-only_analyser.result c.end-only_here.result
    c.end-only_analyser.ensures.count c.end-only_here.ensures.count
    in
    let counts : c.add.new.self ≡ with_counts (settled_counts (ended (waiting_of flow c.self.inside.analyser) (waiting_of flow c.self.inside.here))) (get_or all flow no_counts) =
    c.add.ensures ∙ (ap (λ (some : ComparedCounts). with_counts some c.index_mut.result.now) more
    ∙ ap (with_counts (settled_counts (ended (waiting_of flow c.self.inside.analyser) (waiting_of flow c.self.inside.here)))) read)
    in
    rw (← c.self.view_is) (rw (counts, c.end-only_analyser.ensures.kept, c.end-only_here.ensures.kept) refl)
