-- Frames come to be compared one after another.
use Rattle.std.proofs.Common.{◌≡◌, ℕ, ◌+◌, ◌<◌, List, [], ◌∷◌, ◌++◌, take, length, get_or, refl, sym, ap, subst, ◌∙◌, append-nil}
use Rattle.std.proofs.lemmas.Grind.{flat_map-append}
use Rattle.std.proofs.lemmas.List.{take_more}
use Rattle.flow_selection.specs.declared.selection.Selection.{Selection}
use Rattle.frame_comparison.specs.Aligned.{Arrival, with_all}
use Rattle.frame_comparison.specs.Compared.{Comparison, with_frame}
use Rattle.frame_comparison.specs.Seen.{ComparisonSeen}
use Rattle.timed_frames.specs.declared.timed_step.TimedStep.{TimedStep}
use Rattle.frame_engine.specs.Compared.{arrivals_of_step, arrivals_of_steps}
use Rattle.frame_engine.specs.Comparing.{IsKeptOf}

-- some come, and then more
pub all-append : (arrivals more : List Arrival) (comparison : Comparison) → with_all (arrivals ++ more) comparison ≡ with_all more (with_all arrivals comparison)
all-append [] more comparison = refl
all-append (one ∷ arrivals) more comparison = all-append arrivals more (with_frame one.side one.flow one.frame comparison)

-- of one step more
steps-more : (selected : Selection) (steps : List TimedStep) (i : ℕ) (any : TimedStep) → i < length steps
    → arrivals_of_steps selected (take (i + 1) steps) ≡ arrivals_of_steps selected (take i steps) ++ arrivals_of_step selected (get_or steps i any)
steps-more selected steps i any within =
    ap (λ (some : List TimedStep). arrivals_of_steps selected some) (take_more steps i any within)
    ∙ flat_map-append (arrivals_of_step selected) (take i steps) (get_or steps i any ∷ [])
    ∙ ap (λ (last : List Arrival). arrivals_of_steps selected (take i steps) ++ last) (append-nil (arrivals_of_step selected (get_or steps i any)))

pub steps-kept : (selected : Selection) (steps : List TimedStep) (i : ℕ) (any : TimedStep) → i < length steps → (before : Comparison) (kept : ComparisonSeen)
    → IsKeptOf (with_all (arrivals_of_step selected (get_or steps i any)) (with_all (arrivals_of_steps selected (take i steps)) before)) kept
    → IsKeptOf (with_all (arrivals_of_steps selected (take (i + 1) steps)) before) kept
steps-kept selected steps i any within before kept is =
    subst (λ (comparison : Comparison). IsKeptOf comparison kept)
    (sym (ap (λ (all : List Arrival). with_all all before) (steps-more selected steps i any within)
    ∙ all-append (arrivals_of_steps selected (take i steps)) (arrivals_of_step selected (get_or steps i any)) before))
    is
