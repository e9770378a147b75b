-- Where all ended equal, no frame of any flow is only one side's.
use Rattle.std.proofs.Common.{◌≡◌, ℕ, zero, suc, true, eqb, IsTrue, Option, Some, None, List, [], ◌∷◌, length, map, get_or, refl, sym, ap, ◌∙◌}
use Rattle.std.specs.List.{list_all}
use Rattle.std.specs.Prelude.{IfSome}
use Rattle.std.proofs.lemmas.Bool.{and_parts, eqb-true}
use Rattle.capture_map.specs.declared.map.CaptureMap.{CaptureMap}
use Rattle.frame_comparison.specs.declared.compared_counts.ComparedCounts.{ComparedCounts}
use Rattle.frame_comparison.specs.Frames.{FlowFrames}
use Rattle.frame_comparison.specs.Compared.{Comparison, empty_flow, nothing_came, finished}
use Rattle.frame_comparison.specs.Aligned.{Arrival, with_all, flow_of, flow_at_end}
use Rattle.frame_comparison.specs.Seen.{ComparisonSeen, counts_of, has_none_alone, have_none_alone}
use Rattle.frame_engine.specs.declared.comparing.Comparing.{Comparing}
use Rattle.frame_engine.specs.Comparing.{IsComparing, IsKeptIn, Finishes}
use Rattle.frame_engine.specs.Judged.{EndsEqual}

-- of all flows, and so of each
alone-at : (flows : List FlowFrames) (k : ℕ) → list_all has_none_alone (map counts_of flows) ≡ true → has_none_alone (counts_of (get_or flows k empty_flow)) ≡ true
alone-at [] k is = refl
alone-at (flow ∷ flows) zero is = (and_parts (has_none_alone (counts_of flow)) (list_all has_none_alone (map counts_of flows)) is).0
alone-at (flow ∷ flows) (suc k) is = alone-at flows k (and_parts (has_none_alone (counts_of flow)) (list_all has_none_alone (map counts_of flows)) is).1

counted-none : (counts : ComparedCounts) → has_none_alone counts ≡ true → (counts.only_analyser ≡ 0) × (counts.only_here ≡ 0)
counted-none counts is =
    let both = and_parts (eqb counts.only_analyser 0) (eqb counts.only_here 0) is in (eqb-true counts.only_analyser 0 both.0, eqb-true counts.only_here 0 both.1)

kept-alone : (kept : Option ComparisonSeen) (comparison : Comparison) → IsKeptIn comparison kept → IfSome kept (λ one. IsTrue one.is_whole × (have_none_alone one.counts ≡ true))
    → list_all has_none_alone (map counts_of comparison.flows) ≡ true
kept-alone None comparison is equal = absurd is
kept-alone (Some one) comparison is equal = ap (λ (seen : ComparisonSeen). have_none_alone seen.counts) (sym (is equal.0)) ∙ equal.1

pub none-lonely : (capture_map : CaptureMap) (arrivals : List Arrival) (old new : Comparing) (k : ℕ) → IsComparing (with_all arrivals (nothing_came (length capture_map.flows.items))) old
    → Finishes old new → EndsEqual new
    → ((counts_of (flow_at_end (length capture_map.flows.items) k arrivals)).only_analyser ≡ 0)
    × ((counts_of (flow_at_end (length capture_map.flows.items) k arrivals)).only_here ≡ 0)
none-lonely capture_map arrivals old new k is finishes equal =
    let before = with_all arrivals (nothing_came (length capture_map.flows.items)) in
    counted-none (counts_of (flow_of k (finished before)))
    (alone-at (finished before).flows k (kept-alone new.comparison (finished before) (finishes before is) equal))
